-- The worked ticks come out as they say, each by computing. Assumes nothing.
use mathlib.Core.Path.{refl}
use Rattle.machine.specs.Rows.{age, first_from, map_from, every, how_many}
use Rattle.machine.specs.WellFormed.{fields_fit, stage_fits, is_blank, well_formed}
use Rattle.machine.specs.TickRule.{verdict, chosen, turned, taken, step_of}
use Rattle.machine_laws.specs.Ticks.{Right, cases}

pub ticks_right : Right cases
unfolding age first_from map_from every how_many fields_fit stage_fits is_blank well_formed verdict chosen turned taken step_of
ticks_right = (refl, (refl, (refl, (refl, (refl, tt)))))
