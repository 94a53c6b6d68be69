-- A ring with one corner more is no longer than the room for it, and has the numbers of readings alone.
use Rattle.std.proofs.Common.{◌≡◌, ℕ, zero, suc, ◌+◌, ◌-◌, ◌<◌, ◌≤◌, List, [], ◌∷◌, length, get_or, take, drop, refl, sym, ap, ◌∙◌, inl, inr, ⊎_elim, arith, length-append, length-drop}
use Rattle.std.proofs.lemmas.List.{length-take-le, drop-take}
use Rattle.plane.specs.Rings.{In}
use Rattle.rules.specs.Placing.{turned, placed, retired, from_lowest}
use Rattle.rules.proofs.Rotations.{rotated_length, turned_rotates, lowest_rotates}
use Rattle.rules.proofs.Keeping.{from_turned, corner_new_or_old}

placed_length : (n : ℕ) (ring : List ℕ) (k : ℕ) → 0 < n → n ≤ length ring → length (placed n ring k) ≤ length ring + 1
placed_length n ring k some most =
    let a = length-append (take 1 ring) (k ∷ drop n ring) in
    let b = length-take-le 1 ring (omega arith) in
    let c = length-drop n ring in omega arith

pub cornered_length : (n : ℕ) (ring : List ℕ) (s k : ℕ) → 0 < n → n ≤ length ring → length (from_lowest (placed n (turned s ring) k)) ≤ length ring + 1
cornered_length n ring s k some most =
    let t = rotated_length (turned_rotates s ring) in
    let p = placed_length n (turned s ring) k some (omega arith) in
    let l = rotated_length (lowest_rotates (placed n (turned s ring) k)) in omega arith

-- ---- by positions and by members
member_at : (l : List ℕ) (p : ℕ) → p < length l → In (get_or l p 0) l
member_at [] p h = absurd (omega arith)
member_at (x ∷ l) zero h = inl refl
member_at (x ∷ l) (suc p) h = inr (member_at l p (omega arith))

members_under : (n : ℕ) (l : List ℕ) → ((p : ℕ) → p < length l → get_or l p 0 < n) → (x : ℕ) → In x l → x < n
members_under n [] f x i = absurd i
members_under n (y ∷ l) f x (inl e) = rw e (f 0 (omega arith))
members_under n (y ∷ l) f x (inr i) = members_under n l (λ p h. f (suc p) (omega arith)) x i

pub cornered_under : (n m : ℕ) (ring : List ℕ) (s k : ℕ) → k < m → ((p : ℕ) → p < length ring → get_or ring p 0 < m)
    → (p : ℕ) → p < length (from_lowest (placed n (turned s ring) k)) → get_or (from_lowest (placed n (turned s ring) k)) p 0 < m
cornered_under n m ring s k h under p l =
    let new = from_lowest (placed n (turned s ring) k) in
    let x = get_or new p 0 in
    ⊎_elim (λ e. rw e h) (λ i. members_under m ring under x (from_turned x s ring i)) (corner_new_or_old n (turned s ring) k x (member_at new p l))

pub retired_slice : (n : ℕ) (ring : List ℕ) → 0 < n → take (n - 1) (drop 1 ring) ≡ retired n ring
retired_slice n ring some = sym (drop-take 1 (n - 1) ring) ∙ ap (λ m. drop 1 (take m ring)) (let e : 1 + (n - 1) ≡ n = omega arith in e)
