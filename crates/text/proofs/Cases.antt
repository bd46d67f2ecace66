-- The worked lines read as they should, each by computing. Assumes nothing.
use mathlib.Core.Path.{refl}
use Rattle.text.specs.Put.{digits_in, digits_of, spaced}
use Rattle.text.specs.Cases.{Right, cases}

pub lines_right : Right cases
unfolding digits_in digits_of spaced
lines_right =
    (refl, (refl, (refl, (refl, (refl, (refl, (refl, (refl, (refl, (refl, (refl, (refl, (refl, (refl, (refl, (refl, tt))))))))))))))))
