-- The whole text or nothing: what `report` promises follows from its text put as far as the lent bytes reach. Assumes nothing.
use mathlib.Core.Path.{◌≡◌, refl, sym, ap, ◌∙◌}
use mathlib.Core.Bool.{Bool, true, false}
use mathlib.Core.List.{List, ◌++◌}
use Prim.Native.Nat.{ℕ, ◌≤◌}
use native.Mathlib.Omega.{arith}
use lib.ListN.{length, take, drop, length-append}
use lib.Seq.{length-take-le}
use borrow.Author.Tests.{le-leb}
use Rattle.std.specs.Prelude.{Ok, Err}
use Rattle.text.specs.Put.{Put}
use Rattle.text.proofs.Laws.{put_counts, put_whole}
use Rattle.report.specs.Answers.{Reported, needing}
use Rattle.report.specs.Report.{text_of, fits, Reports}
use Rattle.report.specs.Inside.{longest}

abbrev said_ok : ℕ → Reported
said_ok n = Ok n

abbrev said_short : ℕ → Reported
said_short n = Err (needing n)

module _ (file lent : List ℕ) where
  pub written : (after : List ℕ) (r : ℕ) → Put lent 0 (text_of file) after r → r ≤ longest → length (text_of file) ≤ length lent
      → Reports file lent (Ok r) after
  written after r p short room =
      let e : fits (text_of file) lent ≡ true = le-leb (length (text_of file)) (length lent) room in
      record { answers = rw e (ap said_ok (put_counts p (omega arith))); leaves = rw e (put_whole p room) }

  pub written_at_once : (after : List ℕ) (r : ℕ) → Put lent 0 (text_of file) after r → r ≤ longest → longest ≤ length lent
      → Reports file lent (Ok r) after
  written_at_once after r p short room = written after r p short (omega (arith, put_counts p (omega arith)))

-- what is written lies in the lent bytes, as `&text[..n]` asks
pub written_counts : (file lent after : List ℕ) (x : Reported) (n : ℕ) → x ≡ Ok n → Reports file lent x after
    → (n ≤ length after) × (n ≡ length (take n after))
written_counts file lent after x n w r = go (fits (text_of file) lent) refl
  where
    go : (b : Bool) → fits (text_of file) lent ≡ b → (n ≤ length after) × (n ≡ length (take n after))
    go true e =
        let a = sym w ∙ r.answers in
        let f : said_ok n ≡ said_ok (length (text_of file)) = rw e at a in
        let g : n ≡ length (text_of file) = cc in
        let l = r.leaves in
        let m : after ≡ text_of file ++ drop (length (text_of file)) lent = rw e at l in
        let k : n ≤ length after = omega (arith, ap length m, length-append (text_of file) (drop (length (text_of file)) lent)) in
        (k, sym (length-take-le n after k))
    go false e =
        let a = sym w ∙ r.answers in
        let f : said_ok n ≡ said_short (length (text_of file)) = rw e at a in
        let y : ◌≡◌ {A = ℕ} 0 1 = cc in
        absurd (omega arith)

-- two answers that meet the promise are equal, and so is what they leave
pub determined : (file lent : List ℕ) (a b : Reported) (x y : List ℕ) → Reports file lent a x → Reports file lent b y → (a ≡ b) × (x ≡ y)
determined file lent a b x y p q = (p.answers ∙ sym q.answers, p.leaves ∙ sym q.leaves)
