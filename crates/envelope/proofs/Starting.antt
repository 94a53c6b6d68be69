-- The three that the start search finds may be the first corners.
use Rattle.std.proofs.Common.{◌≡◌, ℕ, zero, suc, ◌<◌, List, [], ◌∷◌, length, get_or, Some, inl, inr, arith}
use Rattle.judge.specs.declared.word.Word.{Word}
use Rattle.rules.specs.Starting.{first_from}
use Rattle.rules.proofs.Searching.{Turned, three_found}
use Rattle.envelope.specs.Corners.{Three}

turned_three : (n a b c : ℕ) (w : Word) (t : ℕ × ℕ × ℕ) → a < b → b < c → c < n → Turned w a b c t → Three n t.0 t.1 t.2
turned_three n a b c w t h i j (inl s) = rw s.1 (record { lowest = (h, omega arith); apart = λ e. omega arith; second = omega arith; third = j })
turned_three n a b c w t h i j (inr s) = rw s.1 (record { lowest = (omega arith, h); apart = λ e. omega arith; second = j; third = omega arith })

pub three_numbers : {R : Type 0} (word : R → R → R → Word) (rs : List R) (t : ℕ × ℕ × ℕ) → first_from word 0 rs ≡ Some t → Three (length rs) t.0 t.1 t.2
three_numbers word [] t e = let no : ◌≡◌ {A = ℕ} 0 1 = cc in absurd (omega arith)
three_numbers word (x ∷ rs) t e = let f = three_found word (x ∷ rs) t e in turned_three (length (x ∷ rs)) f.a f.b f.c _ t f.first f.second f.third (f.says x)

pub three_under : (n a b c : ℕ) → Three n a b c → (p : ℕ) → p < 3 → get_or (a ∷ b ∷ c ∷ []) p 0 < n
three_under n a b c t zero h = let l = t.lowest.0 in let s = t.second in omega arith
three_under n a b c t (suc zero) h = t.second
three_under n a b c t (suc (suc zero)) h = t.third
three_under n a b c t (suc (suc (suc p))) h = absurd (omega arith)
