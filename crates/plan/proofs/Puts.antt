-- Bytes put into a lent list, one piece after the other.
-- Assumes nothing.
use mathlib.Core.Path.{◌≡◌, sym, ap, ◌∙◌}
use mathlib.Core.List.{List, [], ◌∷◌, ◌++◌}
use Prim.Native.Nat.{ℕ, ◌+◌, ◌≤◌, ◌<◌}
use native.Mathlib.Numerals.{add-one, add-two, add-three}
use native.Mathlib.Omega.{arith}
use lib.ListN.{length, get_or, take, drop, set, length-append}
use lib.Seq.{sets, sets-eq, take-suc, length-take-le}
use Rattle.least.proofs.Lists.{sets_append}
use Rattle.plan.specs.declared.writer.Output.{Output}
use Rattle.plan.specs.Numbers.{bytes_of, table_bytes}
use Rattle.plan.specs.Inside.{Puts}
use Rattle.plan.proofs.Digits.{table_append}

-- a piece right after another
pub sets_then : (l : List ℕ) (i j : ℕ) (t u : List ℕ) → j ≡ i + length t → sets (sets l i t) j u ≡ sets l i (t ++ u)
sets_then l i j t u e = ap (λ (x : ℕ). sets (sets l i t) x u) e ∙ sym (sets_append l i t u)

-- from the front on
pub sets_front : (l t : List ℕ) → length t ≤ length l → sets l 0 t ≡ t ++ drop (length t) l
sets_front l t h =
    let z : 0 + length t ≡ length t = omega arith in
    sets-eq t l 0 (omega arith) ∙ ap (λ (x : ℕ). t ++ drop x l) z

-- four stores in a row
pub sets_four : (o : List ℕ) (at a b c d : ℕ) → set (set (set (set o at a) (at + 1) b) (at + 2) c) (at + 3) d ≡ sets o at (a ∷ b ∷ c ∷ d ∷ [])
sets_four o at a b c d = rw (add-one at, add-two at, add-three at)

-- one number more of a table
pub table_more : (t : List ℕ) (i : ℕ) → i < length t → table_bytes (take (i + 1) t) ≡ table_bytes (take i t) ++ bytes_of (get_or t i 0)
unfolding table_bytes
table_more t i h =
    ap (λ (n : ℕ). table_bytes (take n t)) (add-one i) ∙ ap table_bytes (take-suc t i 0 h) ∙ table_append (take i t) (get_or t i 0 ∷ [])

-- one byte more of a script
pub script_step : (o : List ℕ) (at : ℕ) (s : List ℕ) (i : ℕ) → i < length s
    → set (sets o at (take i s)) (at + i) (get_or s i 0) ≡ sets o at (take (i + 1) s)
script_step o at s i h =
    let l : length (take i s) ≡ i = length-take-le i s (omega arith) in
    let b : take (i + 1) s ≡ take i s ++ (get_or s i 0 ∷ []) = ap (λ (n : ℕ). take n s) (add-one i) ∙ take-suc s i 0 h in
    sets_then o at (at + i) (take i s) (get_or s i 0 ∷ []) (omega arith) ∙ ap (sets o at) (sym b)

-- two pieces, the second where the first ended
pub puts_then : {a b c : Output} {t u : List ℕ} → Puts a t b → Puts b u c → Puts a (t ++ u) c
puts_then {a} {b} {c} {t} {u} p q =
    record {
      same_output = q.same_output ∙ p.same_output;
      bytes = q.bytes ∙ ap (λ (l : List ℕ). sets l b.at u) p.bytes ∙ sets_then a.bytes.now a.at b.at t u p.next;
      next = omega (arith, p.next, q.next, length-append t u);
      room = q.room ∙ p.room;
    }
