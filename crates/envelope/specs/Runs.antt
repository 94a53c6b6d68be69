-- What a walk round the ring finds, if no side is undecided.
use Rattle.std.specs.Prelude.{cond, List, Some, None, Option}
use Rattle.judge.specs.declared.word.Word.{Word}
use Rattle.rules.specs.Asking.{some_undecided}
use Rattle.rules.specs.Placing.{rights, run_start}
use Rattle.envelope.specs.declared.run.Run.{Run}

abbrev pub run_of : List Word → Option Run
run_of ws = cond (some_undecided ws) None (Some record { start = run_start ws; rights = rights ws })
