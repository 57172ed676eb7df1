-- The width of a column with one more row.
use Rattle.std.proofs.Common.{◌≡◌, ℕ, ◌+◌, ◌<◌, max, List, [], ◌∷◌, ◌++◌, length, take, get_or, arith, rules, sym, nat_cmp, refl}
use Rattle.std.proofs.Math.Nat.{max_comm}
use Rattle.std.proofs.lemmas.List.{take_more}
use Rattle.std.specs.Ordering.{ord_max}
use Rattle.mctpctl_table.specs.Tables.{Cells, cell, characters, width}
use Rattle.mctpctl_table.specs.declared.row.Column.{Column}

width_more : (column : Column) (rows : List Cells) (row : Cells)
    → width column (rows ++ row ∷ []) ≡ max (width column rows) (characters (cell column row))
width_more column [] row = max_comm (characters (cell column row)) 0
width_more column (first ∷ rows) row = omega (arith, width_more column rows row)

pub greater : (a b : ℕ) → ord_max nat_cmp a b ≡ max a b
greater a b = search rules

pub width_step : (column : Column) (rows : List Cells) (i : ℕ) (row : Cells) (widest count wider : ℕ)
    → i < length rows → row ≡ get_or rows i row → widest ≡ width column (take i rows)
    → count ≡ characters (cell column row) → wider ≡ max widest count → wider ≡ width column (take (i + 1) rows)
width_step column rows i row widest count wider lt row_is widest_is count_is wider_is =
    let more : take (i + 1) rows ≡ take i rows ++ get_or rows i row ∷ [] = take_more rows i row lt in
    rw (more, sym row_is, width_more column (take i rows) row, wider_is, widest_is, count_is) refl
