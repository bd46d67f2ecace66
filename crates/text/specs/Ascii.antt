-- A quoted text as its bytes, for worked lines and texts that a reader can read. Assumes nothing.
use Rattle.std.specs.Prelude.{ℕ, List}
use Prim.Native.Char.{code}
use Prim.Native.String.{String, [], ◌∷◌}
use mathlib.Core.List as list

abbrev pub ascii : String → List ℕ
ascii [] = list.[]
ascii (c ∷ s) = list.◌∷◌ (code c) (ascii s)
