-- Laws of `Put` and of digits. Assumes nothing.
use native.Mathlib.Nat.{pow-suc}
use Prim.Native.Nat.{ℕ, zero, suc, ◌+◌, ◌/◌, ◌%◌, ◌^◌, ◌<◌, ◌≤◌}
use mathlib.Core.Path.{◌≡◌, refl, sym, ap, ◌∙◌}
use mathlib.Core.Bool.{Bool, true, false}
use mathlib.Core.List.{List, [], ◌∷◌, ◌++◌, append-nil, append_assoc}
use native.Mathlib.Omega.{arith}
use lib.ListN.{length, take, drop, get_or, length-append, length-set}
use lib.Seq.{sets, set_out, length-sets, sets-eq}
use lib.Dec.{leb, ltb}
use borrow.Author.Tests.{leb-true, leb-false, lt-ltb, le-ltb, ltb-true, ltb-false}
use Rattle.std.proofs.lemmas.List.{take_more}
use Rattle.least.proofs.Lists.{sets_append}
use Rattle.text.specs.declared.Text.{Text}
use Rattle.text.specs.Put.{Put, Puts, digits_in, digits_of, spaced, last_place}

sets_out : (l : List ℕ) (i : ℕ) (t : List ℕ) → length l ≤ i → sets l i t ≡ l
sets_out l i [] h = refl
sets_out l i (x ∷ t) h = sets_out _ (suc i) t (simp length-set (omega arith)) ∙ set_out l i x h

-- nothing is put
pub put_none : {a : List ℕ} {i : ℕ} → length a ≤ last_place → i ≤ last_place → Put a i [] a i
put_none h k = record { bytes = refl; next = omega arith; room = h }

-- a slice keeps its length
pub put_length : {a t b : List ℕ} {i j : ℕ} → Put a i t b j → length b ≡ length a
put_length {a} {t} {b} {i} p = ap length p.bytes ∙ length-sets a i t

-- one piece after the other
pub put_then : {a b c t u : List ℕ} {i j k : ℕ} → Put a i t b j → Put b j u c k → Put a i (t ++ u) c k
put_then {a} {b} {c} {t} {u} {i} {j} {k} p q =
    record { bytes = q.bytes ∙ go (leb (i + length t) last_place) refl; next = simp length-append (omega (arith, p.next, q.next)); room = p.room }
  where
    go : (x : Bool) → leb (i + length t) last_place ≡ x → sets b j u ≡ sets a i (t ++ u)
    go true e =
        let h : i + length t ≤ last_place = leb-true _ _ e in
        let f : j ≡ i + length t = omega (arith, p.next) in
        rw (sets_append a i t u, ← p.bytes, f)
    go false e =
        let h : last_place < i + length t = leb-false _ _ e in
        sets_out b j u (omega (arith, p.next, p.room, put_length p)) ∙ p.bytes
        ∙ sym (sets_out (sets a i t) (i + length t) u (rw (length-sets a i t) (omega (arith, p.room)))) ∙ sym (sets_append a i t u)

-- the same of calls on one text: nothing is put, and one piece after the other
pub puts_none : {x : Text} → length x.bytes.now ≤ last_place → x.at ≤ last_place → Puts x [] x
puts_none h k = record { same = refl; put = put_none h k }

pub puts_then : {x y z : Text} {t u : List ℕ} → Puts x t y → Puts y u z → Puts x (t ++ u) z
puts_then p q = record { same = q.same ∙ p.same; put = put_then p.put q.put }

-- enough room for the digits is enough
digits_same : (f g x : ℕ) → x < f → x < g → digits_in f x ≡ digits_in g x
unfolding digits_in
digits_same zero g x h k = absurd (omega arith)
digits_same (suc f) zero x h k = absurd (omega arith)
digits_same (suc f) (suc g) x h k = go (ltb x 10) refl (λ big. digits_same f g (x / 10) (omega arith) (omega arith))
  where
    go : (b : Bool) → ltb x 10 ≡ b → (10 ≤ x → digits_in f (x / 10) ≡ digits_in g (x / 10)) → digits_in (suc f) x ≡ digits_in (suc g) x
    go true e w = rw e
    go false e w = rw (e, w (ltb-false _ _ e))

pub digits_small : (x : ℕ) → x < 10 → digits_of x ≡ (48 + x) ∷ []
unfolding digits_of digits_in
digits_small x h = rw (lt-ltb x 10 h)

pub digits_more : (x : ℕ) → 10 ≤ x → digits_of (x / 10) ++ ((48 + x % 10) ∷ []) ≡ digits_of x
unfolding digits_of digits_in
digits_more x h = rw (le-ltb x 10 h, digits_same (suc (x / 10)) x (x / 10) (omega arith) (omega arith))

spaced_last : (l : List ℕ) (x : ℕ) → spaced (l ++ (x ∷ [])) ≡ spaced l ++ (32 ∷ digits_of x)
unfolding spaced
spaced_last [] x = append-nil _
spaced_last (y ∷ l) x = rw (spaced_last l x) (ap (λ (t : List ℕ). 32 ∷ t) (sym (append_assoc (digits_of y) (spaced l) (32 ∷ digits_of x))))

-- one number more after a space
pub spaced_turn : (l : List ℕ) (i : ℕ) → i < length l → spaced (take i l) ++ (32 ∷ digits_of (get_or l i 0)) ≡ spaced (take (i + 1) l)
spaced_turn l i h = rw (take_more l i 0 h, spaced_last)

-- the place after a text that is below the last tells its length
pub put_counts : {a t b : List ℕ} {j : ℕ} → Put a 0 t b j → j < last_place → j ≡ length t
put_counts {a} {t} p h = omega (arith, p.next)

-- a text that fits stands at the front, and nothing past it has changed
pub put_whole : {a t b : List ℕ} {j : ℕ} → Put a 0 t b j → length t ≤ length a → b ≡ t ++ drop (length t) a
put_whole {a} {t} {b} p h = let z : 0 + length t ≡ length t = omega arith in p.bytes ∙ sets-eq t a 0 (omega arith) ∙ rw z

-- a number below 10 ^ (k + 1) has at most k + 1 digits
pub digits_length : (k x : ℕ) → x < 10 ^ suc k → length (digits_of x) ≤ suc k
digits_length zero x h = rw (digits_small x (omega arith)) (omega arith)
digits_length (suc k) x h = go (ltb x 10) refl (λ b. digits_length k (x / 10) (omega (arith, pow-suc 10 (suc k))))
  where
    go : (b : Bool) → ltb x 10 ≡ b → (10 ≤ x → length (digits_of (x / 10)) ≤ suc k) → length (digits_of x) ≤ suc (suc k)
    go true e w = rw (digits_small x (ltb-true _ _ e)) (omega arith)
    go false e w = let b : 10 ≤ x = ltb-false _ _ e in rw (← digits_more x b, length-append) (omega (arith, w b))
