-- What a judge's word says of three readings.
use Rattle.std.specs.Prelude.{◌≡◌, ℕ, Bool, cond, List, codes}
use Rattle.plane.specs.Fractions.{Positive, Negative}
use Rattle.plane.specs.Points.{Point, doubled_area}
use Rattle.judge.specs.declared.word.Word.{Word}
use Rattle.judge.specs.declared.word.Word.TheVariants.{Left, Right, Undecided}

-- left is said only where the doubled area is positive for every choice of true points, and right only where it is negative for every choice
abbrev pub Certain : {R : Type 0} → (R → Point → Type 0) → R → R → R → Word → Type 0
Certain stands a b c Left = (p q s : Point) → stands a p → stands b q → stands c s → Positive (doubled_area p q s)
Certain stands a b c Right = (p q s : Point) → stands a p → stands b q → stands c s → Negative (doubled_area p q s)
Certain stands a b c Undecided = Unit {0}

-- the word is decided wherever every choice of true points has the same strict sign
abbrev pub Decided : {R : Type 0} → (R → Point → Type 0) → R → R → R → Word → Type 0
Decided stands a b c w = (Certain stands a b c Left → w ≡ Left) × (Certain stands a b c Right → w ≡ Right)

-- the word of two tests
abbrev pub worded : Bool → Bool → Word
worded left right = cond left Left (cond right Right Undecided)

-- the first word, or the second where the first is undecided
abbrev pub or_else : Word → Word → Word
or_else Left w = Left
or_else Right w = Right
or_else Undecided w = w

-- as it is printed
abbrev pub word_name : Word → List ℕ
word_name Left = codes "LEFT"
word_name Right = codes "RIGHT"
word_name Undecided = codes "UNDECIDED"

-- f of the numbers that three readings hold
abbrev pub by_numbers : {R N A : Type 0} → (R → N) → (N → N → N → A) → R → R → R → A
by_numbers numbers f a b c = f (numbers a) (numbers b) (numbers c)
