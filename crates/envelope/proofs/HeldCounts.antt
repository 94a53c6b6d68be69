-- How many readings are held, after a standing changes or comes.
use Rattle.std.proofs.Common.{◌≡◌, ℕ, zero, suc, ◌+◌, ◌≤◌, Bool, true, false, cond, List, [], ◌∷◌, ◌++◌, length, ◌<◌, ◌≢◌, get_or, set, refl, ap, arith}
use Rattle.rules.specs.declared.standing.Standing.{Standing}
use Rattle.rules.specs.declared.standing.Standing.TheVariants.{Corner, Inside, Held}
use Rattle.rules.specs.Trying.{all_inside, is_held, held_count}
use Rattle.envelope.specs.Corners.{Three}

held_first : (s : Standing) (st : List Standing) → held_count (s ∷ st) ≡ cond (is_held s) 1 0 + held_count st
held_first Corner st = omega arith
held_first Inside st = omega arith
held_first Held st = omega arith

pub held_push : (st : List Standing) → held_count (st ++ Held ∷ []) ≡ held_count st + 1
held_push [] = refl
held_push (s ∷ st) = let f = held_first s st in let g = held_first s (st ++ Held ∷ []) in let h = held_push st in omega arith

-- a standing becomes one that is not held
held_change : (st : List Standing) (k : ℕ) (s : Standing) → is_held s ≡ false → held_count (set st k s) + cond (is_held (get_or st k Corner)) 1 0 ≡ held_count st
held_change [] k s n = refl
held_change (t ∷ st) zero s n = let f = held_first t st in rw n (omega arith)
held_change (t ∷ st) (suc k) s n = let f = held_first t st in let g = held_first t (set st k s) in let h = held_change st k s n in omega arith

-- one that was held
pub held_less : (st : List Standing) (k : ℕ) (s : Standing) → is_held s ≡ false → get_or st k Corner ≡ Held → held_count (set st k s) + 1 ≡ held_count st
held_less st k s n h = rw h at (held_change st k s n)

pub held_inside : (is : List ℕ) (st : List Standing) → held_count (all_inside is st) ≤ held_count st
held_inside [] st = omega arith
held_inside (i ∷ is) st = let h = held_inside is (set st i Inside) in let g = held_change st i Inside refl in omega arith

-- ---- the first corners
one_at_most : (b : Bool) → cond b 1 0 ≤ 1
one_at_most true = omega arith
one_at_most false = omega arith

held_most : (st : List Standing) → held_count st ≤ length st
held_most [] = omega arith
held_most (s ∷ st) = let f = held_first s st in let h = held_most st in let o = one_at_most (is_held s) in omega arith

held_one : (st : List Standing) (c : ℕ) → c < length st → held_count (set st c Corner) + 1 ≤ length st
held_one [] c h = absurd (omega arith)
held_one (s ∷ st) zero h = let m = held_most st in omega arith
held_one (s ∷ st) (suc c) h = let f = held_first s (set st c Corner) in let i = held_one st c (omega arith) in let o = one_at_most (is_held s) in omega arith

held_two : (st : List Standing) (b c : ℕ) → b ≢ c → b < length st → c < length st → held_count (set (set st b Corner) c Corner) + 2 ≤ length st
held_two [] b c n h k = absurd (omega arith)
held_two (s ∷ st) zero zero n h k = absurd (n refl)
held_two (s ∷ st) zero (suc c) n h k = let i = held_one st c (omega arith) in omega arith
held_two (s ∷ st) (suc b) zero n h k = let i = held_one st b (omega arith) in omega arith
held_two (s ∷ st) (suc b) (suc c) n h k =
    let f = held_first s (set (set st b Corner) c Corner) in
    let i = held_two st b c (λ e. n (ap suc e)) (omega arith) (omega arith) in
    let o = one_at_most (is_held s) in omega arith

held_apart : (st : List Standing) (a b c : ℕ) → a < b → a < c → b ≢ c → b < length st → c < length st → held_count (set (set (set st a Corner) b Corner) c Corner) + 3 ≤ length st
held_apart [] a b c l m n h k = absurd (omega arith)
held_apart (s ∷ st) a zero c l m n h k = absurd (omega arith)
held_apart (s ∷ st) a (suc b) zero l m n h k = absurd (omega arith)
held_apart (s ∷ st) zero (suc b) (suc c) l m n h k = let i = held_two st b c (λ e. n (ap suc e)) (omega arith) (omega arith) in omega arith
held_apart (s ∷ st) (suc a) (suc b) (suc c) l m n h k =
    let f = held_first s (set (set (set st a Corner) b Corner) c Corner) in
    let i = held_apart st a b c (omega arith) (omega arith) (λ e. n (ap suc e)) (omega arith) (omega arith) in
    let o = one_at_most (is_held s) in omega arith

pub held_three : (st : List Standing) (n a b c : ℕ) → n ≡ length st → Three n a b c → held_count (set (set (set st a Corner) b Corner) c Corner) + 3 ≤ n
held_three st n a b c e t =
    let s = t.second in
    let r = t.third in
    let h = held_apart st a b c t.lowest.0 t.lowest.1 t.apart (omega arith) (omega arith) in omega arith
