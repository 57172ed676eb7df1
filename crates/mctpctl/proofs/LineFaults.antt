-- A line that stopped, or a fault that printing may have too.
use Rattle.std.proofs.Common.{◌≡◌, ◌≢◌, ◌⊎◌, ℕ, List, inl, inr, refl}
use Rattle.mctpctl.specs.AskedTexts.{IsOfPrinting}
use Rattle.mctpctl.specs.WatchedTexts.{ReadsFirst, StopsOne, StopsReading}
use Rattle.pldm_line.specs.Asked.{Shown}
use Rattle.mctpctl_table.specs.Tables.{Cells}
use Rattle.pldm_discovery.specs.Walks.{Walking}
use Rattle.pldm_line.specs.declared.ask_fault.AskFault.{AskFault}
use Rattle.pldm_line.specs.declared.ask_fault.AskFault.TheVariants.{LineEnded, Read, Write, Clock, Memory, TooMany, Unread}

pub stopped_or_printing : {P : Type 0} (fault : AskFault) → (fault ≢ Write → P) → IsOfPrinting fault ⊎ P
stopped_or_printing LineEnded stops = inr (stops (λ (e : LineEnded ≡ Write). cc))
stopped_or_printing Read stops = inr (stops (λ (e : Read ≡ Write). cc))
stopped_or_printing Write stops = inl (inl refl)
stopped_or_printing Clock stops = inr (stops (λ (e : Clock ≡ Write). cc))
stopped_or_printing Memory stops = inr (stops (λ (e : Memory ≡ Write). cc))
stopped_or_printing TooMany stops = inr (stops (λ (e : TooMany ≡ Write). cc))
stopped_or_printing Unread stops = inl (inr (inl refl))

-- what was found at the first places was read, and then the line stopped
pub stopped_reading : (w : Walking) (place : ℕ) (fault : AskFault) (a mid b : Shown) (rows : List Cells) (status : ℕ)
    → ReadsFirst w place a mid rows status → IsOfPrinting fault ⊎ StopsOne w place fault mid b
    → IsOfPrinting fault ⊎ StopsReading w fault a b
stopped_reading w place fault a mid b rows status read (inl printing) = inl printing
stopped_reading w place fault a mid b rows status read (inr stops) =
    inr (record { place = place; last = mid; rows = rows; status = status; read = read; stops = stops })
