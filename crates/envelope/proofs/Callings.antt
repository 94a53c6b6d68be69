-- The calls with a judge are those of the rules.
use Rattle.std.proofs.Common.{◌≡◌, ℕ, ◌-◌, Bool, true, false, not, nat_lt, [], ◌∷◌, length, get_or, Ok, Err, Result, refl, sym, ap, ◌∙◌, arith, length-append, lt-ltb}
use Rattle.plane.specs.Points.{Point}
use Rattle.reading.specs.declared.cause.Cause.{Cause}
use Rattle.reading.specs.declared.cause.Cause.TheVariants.{EnvelopeFull}
use Rattle.judge.specs.declared.word.Word.{Word}
use Rattle.judge.specs.Words.{Certain}
use Rattle.rules.specs.declared.standing.Standing.{Standing}
use Rattle.rules.specs.declared.standing.Standing.TheVariants.{Held}
use Rattle.rules.specs.Envelopes.{Envelope, standing_at}
use Rattle.rules.specs.Trying.{held_count}
use Rattle.rules.specs.Settling.{added, settled}
use Rattle.rules.specs.Calls.{Judging, enter, recheck, entered, rechecked}
use Rattle.rules.proofs.Lengths.{settled_length}
use Rattle.envelope.specs.Years.{Year}
use Rattle.envelope.specs.Calling.{Called}
use Rattle.envelope.proofs.Fewer.{held_fewer}

not_true : (b : Bool) → not b ≡ true → b ≡ false
not_true true h = sym h
not_true false h = refl

not_false : (b : Bool) → not b ≡ false → b ≡ true
not_false true h = refl
not_false false h = sym h

-- the reading that came last has a standing once all is settled
newest : {R : Type 0} (word : R → R → R → Word) (e : Envelope R) (x : R) → standing_at (settled word (added e x)) (length e.standings) ≡ Ok (get_or (settled word (added e x)).standings (length e.standings) Held)
newest word e x =
    let f = settled word (added e x) in
    let l = settled_length word (added e x) in
    let m = length-append e.standings (Held ∷ []) in
    rw (lt-ltb (length e.standings) (length f.standings) (omega arith)) refl

module _ {R : Type 0} (word : R → R → R → Word) (y w z : Year R) (x : R) (n : ℕ) (r : Result Standing Cause) (level : n ≡ length y.envelope.standings)
    (adds : w ≡ record y { envelope = added y.envelope x }) (settles : z ≡ record w { envelope = settled word w.envelope }) (asks : r ≡ standing_at z.envelope n) where
  pub stands_newest : r ≡ Ok (get_or (settled word (added y.envelope x)).standings n Held)
  stands_newest = asks ∙ rw (settles, adds, level) (newest word y.envelope x)

  pub never_refused : (d : Cause) → r ≡ Err d → ⊥
  never_refused d h = let s = stands_newest in let z : ◌≡◌ {A = ℕ} 0 1 = cc in omega arith

module _ {R : Type 0} (stands : R → Point → Type 0) (word : R → R → R → Word) (certain : (a b c : R) → Certain stands a b c (word a b c)) (y : Year R) where
  abbrev judging : Judging stands
  judging = record { word = word; certain = certain }

  module _ (x : R) (full : Bool) (is : full ≡ not (nat_lt (length y.envelope.readings) y.capacity)) where
    pub enter_refused : full ≡ true → Called stands word (enter x) y (entered (Err EnvelopeFull)) y
    enter_refused h =
        let q = not_true (nat_lt (length y.envelope.readings) y.capacity) (sym is ∙ h) in
        record { judging = judging; words = refl; answers = rw q refl; leaves = rw q refl }

    pub enter_taken : full ≡ false → (w z : Year R) (n : ℕ) (r : Result Standing Cause) (t : Standing) → n ≡ length y.envelope.readings → n ≡ length y.envelope.standings →
        w ≡ record y { envelope = added y.envelope x } → z ≡ record w { envelope = settled word w.envelope } → r ≡ standing_at z.envelope n → r ≡ Ok t →
        Called stands word (enter x) y (entered (Ok (n, t))) z
    enter_taken h w z n r t number level adds settles asks says =
        let q = not_false (nat_lt (length y.envelope.readings) y.capacity) (sym is ∙ h) in
        let s = stands_newest word y w z x n r level adds settles asks in
        let k : t ≡ get_or (settled word (added y.envelope x)).standings n Held = cc in
        record { judging = judging; words = refl; answers = rw (q, k, number) refl; leaves = rw (q, settles, adds) refl }

  pub rechecks : let f = settled word y.envelope in
      Called stands word recheck y (rechecked (held_count y.envelope.standings - held_count f.standings)) (record y { envelope = f })
  rechecks = record { judging = judging; words = refl; answers = let h = held_fewer word y.envelope in ap rechecked (omega arith); leaves = refl }
