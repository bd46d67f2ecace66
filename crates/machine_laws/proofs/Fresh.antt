-- A fresh machine is well formed: rows within the limits with 1 ≤ E < D, every task Never, at any clock. Assumes nothing.
use mathlib.Core.Path.{◌≡◌, refl}
use mathlib.Core.Bool.{Bool, true}
use mathlib.Core.List.{List, [], ◌∷◌, ◌++◌}
use Prim.Native.Nat.{ℕ, zero, suc, ◌-◌, ◌≤◌, ◌^◌}
use native.Mathlib.Omega.{arith}
use lib.ListN.{length, replicate, length-append, length-replicate}
use lib.Seq.{take_at, drop_at}
use borrow.Author.Tests.{le-leb}
use Rattle.std.specs.Prelude.{Err}
use Rattle.refusals.specs.declared.Refusal.{Refusal}
use Rattle.machine.specs.Answers.{Answer}
use Rattle.machine.specs.declared.Stage.{Stage}
use Rattle.machine.specs.declared.Row.{Row}
use Rattle.machine.specs.Rows.{no_row, with_stage, map_from, every, how_many}
use Rattle.machine.specs.WellFormed.{fields_fit, row_fits, begun_row, is_blank, well_formed}
use Rattle.machine.specs.TickRule.{verdict, step_of}
use Rattle.machine.specs.Fresh.{fresh_rows, fresh_at}
use Rattle.machine.proofs.Tests.{both}
use Rattle.machine.proofs.Searches.{map_length}
use Rattle.machine_laws.proofs.Stages.{never_fits}

abbrev nevers : List Row → List Row
nevers rows = map_from (λ i r. with_stage r Stage.Never) 0 rows

every_never : (clock i : ℕ) (rows : List Row) → every fields_fit rows ≡ true
    → every (row_fits clock) (map_from (λ j r. with_stage r Stage.Never) i rows) ≡ true
unfolding every map_from fields_fit
every_never clock i [] h = refl
every_never clock i (r ∷ rs) h =
    let x = both (fields_fit r) (every fields_fit rs) h in
    rw (x.0, never_fits clock r.c r.k r.e, every_never clock (suc i) rs x.1)

none_begun : (i : ℕ) (rows : List Row) (n : ℕ) → how_many begun_row (map_from (λ j r. with_stage r Stage.Never) i rows ++ replicate n no_row) ≡ 0
unfolding how_many map_from
none_begun i [] zero = refl
none_begun i [] (suc n) = none_begun i [] n
none_begun i (r ∷ rs) n = none_begun (suc i) rs n

every_blank : (n : ℕ) → every is_blank (replicate n no_row) ≡ true
unfolding every is_blank
every_blank zero = refl
every_blank (suc n) = every_blank n

pub fresh_formed : (rows : List Row) (clock : ℕ) → 1 ≤ length rows → length rows ≤ 32 → every fields_fit rows ≡ true → clock ≤ 2 ^ 40
    → well_formed (fresh_at rows clock) ≡ true
unfolding well_formed fresh_at fresh_rows
fresh_formed rows clock some most fit time =
    let n = map_length (λ i r. with_stage r Stage.Never) rows 0 in
    rw (
      le-leb 1 (length rows) some,
      le-leb (length rows) 32 most,
      le-leb clock (2 ^ 40) time,
      take_at (nevers rows) (replicate (32 - length rows) no_row) (length rows) n,
      drop_at (nevers rows) (replicate (32 - length rows) no_row) (length rows) n,
      every_never clock 0 rows fit,
      none_begun 0 rows (32 - length rows),
      every_blank (32 - length rows),
    )

-- and has 32 places
pub fresh_length : (rows : List Row) (clock : ℕ) → length rows ≤ 32 → length (fresh_at rows clock).rows ≡ 32
unfolding fresh_at fresh_rows
fresh_length rows clock most =
    let n = map_length (λ i r. with_stage r Stage.Never) rows 0 in
    simp (length-append, length-replicate) (omega arith)

-- the machine with no rows gets 8 in every tick
pub no_rows : (clock mask signal : ℕ) (early : Bool)
    → step_of (fresh_at [] clock) mask signal early ≡ record { machine = fresh_at [] clock; answer = Err (Refusal.NotWellFormed 0) }
unfolding step_of verdict well_formed fresh_at
no_rows clock mask signal early = refl
