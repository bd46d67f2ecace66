-- Numbers of 32 bits as bytes: document 01, "The plan file", "All numbers are little-endian".
-- Assumes nothing.
use Rattle.std.specs.Prelude.{List, [], ◌∷◌, ◌++◌, ℕ, ◌+◌, ◌*◌, ◌/◌, ◌%◌, ◌<◌, length, get_or}
use Rattle.least.specs.Lists.{list_of}

-- the number in the four bytes from k on, the lowest byte first
unfoldable pub number_at : List ℕ → ℕ → ℕ
number_at f k = get_or f k 0 + 256 * get_or f (k + 1) 0 + 65536 * get_or f (k + 2) 0 + 16777216 * get_or f (k + 3) 0

-- the four bytes of a number
abbrev pub bytes_of : ℕ → List ℕ
bytes_of x = x % 256 ∷ x / 256 % 256 ∷ x / 65536 % 256 ∷ x / 16777216 % 256 ∷ []

-- the bytes of a table of numbers
unfoldable pub table_bytes : List ℕ → List ℕ
table_bytes [] = []
table_bytes (x ∷ xs) = bytes_of x ++ table_bytes xs

-- the numbers in the first n fours of bytes
abbrev pub numbers_in : List ℕ → ℕ → List ℕ
numbers_in f n = list_of (λ i. number_at f (4 * i)) n

-- the table of numbers that the bytes of rows hold
abbrev pub table_of : List ℕ → List ℕ
table_of f = numbers_in f (length f / 4)

-- each element is below n: bytes are below 256, numbers of 32 bits below 4,294,967,296
abbrev pub AllBelow : ℕ → List ℕ → Type 0
AllBelow n f = (j : ℕ) → j < length f → get_or f j 0 < n
