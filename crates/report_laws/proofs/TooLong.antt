-- "Input longer than 65,536 bytes is refused with 13 at place 65,537": what the program hands on of it is 65,537 bytes. Assumes nothing.
use mathlib.Core.Path.{◌≡◌}
use mathlib.Core.List.{List}
use Prim.Native.Nat.{ℕ}
use lib.ListN.{length}
use Rattle.plan.specs.PlanFile.{read_refusal}
use Rattle.text.specs.Ascii.{ascii}
use Rattle.text.specs.Put.{digits_in, digits_of, spaced}
use Rattle.report.specs.Report.{text_of}

pub too_long : (file : List ℕ) → length file ≡ 65537 → text_of file ≡ ascii "REFUSE 13 65537\n"
unfolding text_of read_refusal digits_in digits_of spaced
too_long file e = rw e
