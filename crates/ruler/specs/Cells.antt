-- A table of lengths: 64 rows of 64 cells, one cell for each pair of places.
use Rattle.std.specs.Prelude.{◌≡◌, ℕ, ◌+◌, ◌<◌, ◌≤◌, min, Bool, cond, ◌&&◌, List, [], ◌==◌, nat_le, slice_index, slice_index_or}

-- the cell in row i and column j
abbrev pub cell : List (List ℕ) → ℕ → ℕ → ℕ
cell rows i j = slice_index (slice_index_or rows i []) j

-- no cell is past the ring
abbrev pub Capped : ℕ → List (List ℕ) → Type 0
Capped ring rows = (i j : ℕ) → i < 64 → j < 64 → cell rows i j ≤ ring

-- from a place to itself
abbrev pub Still : List (List ℕ) → Type 0
Still rows = (i : ℕ) → i < 64 → cell rows i i ≡ 0

-- a detour is never shorter
abbrev pub Detours : List (List ℕ) → Type 0
Detours rows = (i j k : ℕ) → (i < 64) × (j < 64) × (k < 64) → cell rows i k ≤ cell rows i j + cell rows j k

-- the sites 1 to n
abbrev pub knows : ℕ → ℕ → Bool
knows n site = nat_le 1 site && nat_le site n

-- without legs: 0 from a place to itself, else the ring
abbrev pub bare_at : ℕ → ℕ → ℕ → ℕ
bare_at ring i j = cond (i == j) 0 ring

-- one leg more: the length before, or the length by way of the leg
abbrev pub relaxed_at : List (List ℕ) → ℕ → ℕ → ℕ → ℕ → ℕ → ℕ
relaxed_at rows from to size i j = min (cell rows i j) (cell rows i from + size + cell rows to j)

-- the cells are filled by f
abbrev pub Filled : (ℕ → ℕ → ℕ) → List (List ℕ) → Type 0
Filled f rows = (i j : ℕ) → i < 64 → j < 64 → cell rows i j ≡ f i j

-- a row after it was shortened, by way of a leg whose end is `there` away
abbrev pub Shortened : ℕ → List ℕ → List ℕ → List ℕ → Type 0
Shortened there onward old row = (j : ℕ) → j < 64 → slice_index row j ≡ min (slice_index old j) (there + slice_index onward j)
