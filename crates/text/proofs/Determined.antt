-- Two answers that meet a public method's promise are equal, and so are the lent bytes: each contract cites `Puts`, which says `Put` with bytes that
-- are a definition of the arguments, so one theorem serves `put_byte`, `put_bytes`, `put_number`, `put_spaced` and `put_accept`, `put_row`,
-- `put_refusal`, `put_tick`, `put_task` of `Text`. What some promise beside it, `short`, only adds a bound. Assumes nothing.
use mathlib.Core.Path.{◌≡◌, sym, ◌∙◌}
use mathlib.Core.List.{List}
use Prim.Native.Nat.{ℕ}
use Rattle.text.specs.declared.Text.{Text}
use Rattle.text.specs.Put.{Put, Puts}

pub put_determined : (a : List ℕ) (i : ℕ) (t b b' : List ℕ) (j j' : ℕ) → Put a i t b j → Put a i t b' j' → (b ≡ b') × (j ≡ j')
put_determined a i t b b' j j' p q = (p.bytes ∙ sym q.bytes, p.next ∙ sym q.next)

pub puts_determined : (x y z : Text) (t : List ℕ) → Puts x t y → Puts x t z
    → (y.bytes.ghost_name ≡ z.bytes.ghost_name) × (y.bytes.now ≡ z.bytes.now) × (y.at ≡ z.at)
puts_determined x y z t p q =
    let d = put_determined _ _ t _ _ _ _ p.put q.put in
    (p.same ∙ sym q.same, d.0, d.1)
