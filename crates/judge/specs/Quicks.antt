-- What the quick judge says is certain.
use Rattle.reading.specs.declared.logged.Logged.{Logged}
use Rattle.reading.specs.contracts.kind.LoggedKind.TheImpl as LoggedKind
use Rattle.reading.specs.Makes.{logged_numbers}
use Rattle.orientation.proofs.Coefficients.{six}
use Rattle.orientation.proofs.Certain.{left_certain, right_certain}
use Rattle.judge.specs.Words.{Certain}
use Rattle.judge.specs.Quick.{coefficient, quick_word}
use Rattle.judge.specs.Wordings.{worded_certain}

pub quick_certain : (a b c : Logged) → Certain (LoggedKind.ghosts).stands a b c (quick_word (logged_numbers a) (logged_numbers b) (logged_numbers c))
unfolding quick_word
quick_certain a b c = worded_certain (LoggedKind.ghosts).stands a b c _ _
    (left_certain coefficient six (logged_numbers a) (logged_numbers b) (logged_numbers c) a.ok b.ok c.ok)
    (right_certain coefficient six (logged_numbers a) (logged_numbers b) (logged_numbers c) a.ok b.ok c.ok)
