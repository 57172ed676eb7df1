-- Worked rows: marked lines and lines of a log.
use Rattle.std.proofs.Common.{◌≡◌, [], ◌∷◌, ◌++◌, codes, refl}
use Rattle.std.specs.Fmt.{digits}
use Rattle.mctpctl_table.specs.Logs.{log_line, log_text}
use Rattle.mctpctl_table.specs.Marks.{marked_text}
use Rattle.mctpctl_table.specs.Tables.{Cells, cells, line}

fan : Cells
fan = cells (codes "sensor 1") (codes "Fan") (codes "4200 rpm") (codes "normal")

slow_fan : Cells
slow_fan = cells (codes "sensor 1") (codes "Fan") (codes "900 rpm") (codes "normal")

warned_fan : Cells
warned_fan = cells (codes "sensor 1") (codes "Fan") (codes "4200 rpm") (codes "lowerWarning")

power : Cells
power = cells (codes "sensor 5") (codes "Power") (codes "state 1 (set 260: 1, 5)") (codes "enabled")

-- another value
slowed : marked_text (slow_fan ∷ power ∷ []) (fan ∷ power ∷ [])
    ≡ codes "* sensor 1  Fan    900 rpm                  normal" ++ 10
    ∷ codes "  sensor 5  Power  state 1 (set 260: 1, 5)  enabled" ++ 10 ∷ []
unfolding fan slow_fan power line
slowed = refl

-- another state alone
warned : marked_text (warned_fan ∷ []) (fan ∷ power ∷ []) ≡ codes "* sensor 1  Fan  4200 rpm  lowerWarning" ++ 10 ∷ []
unfolding fan warned_fan power line
warned = refl

-- a row that was not there
added : marked_text (fan ∷ power ∷ []) (fan ∷ [])
    ≡ codes "  sensor 1  Fan    4200 rpm                 normal" ++ 10
    ∷ codes "* sensor 5  Power  state 1 (set 260: 1, 5)  enabled" ++ 10 ∷ []
unfolding fan power line
added = refl

logged : log_text 1200 (fan ∷ power ∷ [])
    ≡ codes "1200,sensor 1," ++ 34 ∷ codes "Fan" ++ 34 ∷ 44 ∷ 34 ∷ codes "4200 rpm" ++ 34 ∷ 10
    ∷ codes "1200,sensor 5," ++ 34 ∷ codes "Power" ++ 34 ∷ 44 ∷ 34 ∷ codes "state 1 (set 260: 1, 5)" ++ 34 ∷ 10 ∷ []
unfolding fan power log_line digits
logged = refl

-- a value with a quote
inches : log_text 0 (cells (codes "sensor 9") (codes "-") (codes "4" ++ 34 ∷ []) (codes "normal") ∷ [])
    ≡ codes "0,sensor 9," ++ 34 ∷ codes "-" ++ 34 ∷ 44 ∷ 34 ∷ codes "4" ++ 34 ∷ 34 ∷ 34 ∷ 10 ∷ []
unfolding log_line digits
inches = refl
