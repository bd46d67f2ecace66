-- What the search goes by: how large the terms of the equations get, and what a job, a response and a window come from.
-- Assumes nothing.
use mathlib.Core.List.{List}
use Prim.Native.Nat.{ℕ, ◌*◌, ◌≤◌}
use native.Mathlib.Omega.{arith}
use Rattle.least.specs.Sums.{up}
use Rattle.least.proofs.Sums.{up_le, up_mul≤}
use Rattle.equations.specs.Guest.{window_side}
use Rattle.equations.proofs.Bounds.{times≤, T≥1, T≤, D≤, C≥1, C≤, K≥1, K≤, B≤, demand≤, demands≤, start_demand≤, start_demands≤, active≥1, jobs≤, own≤, E≤D}
use Rattle.equations.proofs.Bounds.{bound≤, bounds≤, below≤}
use Rattle.equations.proofs.Jobs.{start_after_below, job_after, job_none, worst_more, worst_none, active≤, response_5, response_6, response_is}
use Rattle.equations.proofs.Jobs.{guest_7, guest_19, guest_is}
use Rattle.analysis.proofs.Rounded.{div_ceil_is_up}
use Rattle.analysis.proofs.Searched.{WA_is, WE_is}

pub loads≤ : (w t c : ℕ) → 1 ≤ t → c ≤ 1000000 → up w t * c ≤ w * 1000000
loads≤ w t c h g = times≤ (up w t) c w (up_le w t h) g

pub window≥1 : (s : List ℕ) (e : ℕ → ℕ) (i own w : ℕ) → 1 ≤ own → 1 ≤ window_side s e i own w
unfolding window_side
window≥1 s e i own w h = omega arith

pub ruleset limits = (div_ceil_is_up, loads≤, T≥1, T≤, D≤, C≥1, C≤, K≥1, K≤, B≤, demand≤, demands≤, start_demand≤, start_demands≤, active≥1, jobs≤, own≤, E≤D)

pub ruleset jobs = (limits, up_le, start_after_below, job_after, job_none, worst_more, worst_none)

pub ruleset responses = (limits, up_le, active≤, up_mul≤, response_5, response_6, response_is)

pub ruleset windows = (limits, WA_is, WE_is, bound≤, bounds≤, below≤, window≥1, guest_7, guest_19, guest_is)
