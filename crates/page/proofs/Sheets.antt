-- A sheet that is put into part by part.
use Rattle.std.proofs.Common.{◌≡◌, ℕ, ◌+◌, ◌-◌, ◌^◌, ◌<◌, ◌≤◌, min, List, ◌++◌, length, drop, append_assoc, arith}
use Rattle.std.proofs.lemmas.List.{length-append, length-drop, length-take-le, take_at, drop_at, drop-drop, take-append-drop}
use Rattle.page.specs.declared.page.Sheet.{Sheet}
use Rattle.page.specs.Sheet.{Puts, written, beyond}

pub puts_one : (s t : Sheet) (bs : List ℕ) → t.out.ghost_name ≡ s.out.ghost_name → t.end ≡ min (s.end + length bs) (2 ^ 64 - 1) → s.end + length bs ≤ length s.out.now → length s.out.now < 2 ^ 64 → t.out.now ≡ written s ++ (bs ++ drop (length bs) (beyond s)) → Puts s bs t
puts_one s t bs same e h few w =
    let front = written s ++ bs in
    let back = drop (length bs) (beyond s) in
    let long : length front ≡ t.end = omega (arith, length-append (written s) bs, length-take-le s.end s.out.now (omega arith)) in
    grind (arith, append_assoc, length-append, length-drop, take_at front back _ long, drop_at front back _ long)

pub puts_more : {s t u : Sheet} {a b : List ℕ} → length s.out.now < 2 ^ 64 → Puts s a t → Puts t b u → Puts s (a ++ b) u
puts_more {s} {t} {u} {a} {b} few p q = grind (arith, length-append, append_assoc, drop-drop, p, q)

pub puts_as : {s t : Sheet} {a b : List ℕ} → a ≡ b → Puts s a t → Puts s b t
puts_as {s} {t} {a} {b} e p = grind (arith, p)

-- what a sheet that began at the front holds
pub puts_front : {s t : Sheet} {text : List ℕ} → s.end ≡ 0 → Puts s text t → length text ≤ length s.out.now → t.out.now ≡ text ++ drop (length text) s.out.now
puts_front {s} {t} {text} start p h = grind (arith, take-append-drop t.end t.out.now)
