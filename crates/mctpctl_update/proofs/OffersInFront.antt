-- Offers behind those that stand in front of them.
use Rattle.std.proofs.Common.{◌≡◌, ℕ, true, false, List, [], ◌∷◌, ◌++◌, Ok, Err, Result, ap, refl, sym, append_assoc}
use Rattle.pldm_update.specs.Packages.{Device, Image, Package}
use Rattle.pldm_update.specs.Parameters.{FirmwareParameters}
use Rattle.mctpctl_update.specs.Offers.{Offered, is_applicable, number_after, offers_of, package_offer, with_front}
use Rattle.mctpctl_update.specs.declared.offers.OfferFault.{OfferFault}

pub nothing_in_front : (others : Result (List Offered) OfferFault) → with_front [] others ≡ others
nothing_in_front (Ok others) = refl
nothing_in_front (Err fault) = refl

pub front_of_front :
    (front : List Offered) (offer : Offered) (others : Result (List Offered) OfferFault)
    → with_front (front ++ offer ∷ []) others ≡ with_front front (with_front (offer ∷ []) others)
front_of_front front offer (Ok others) = ap Ok (append_assoc front (offer ∷ []) others)
front_of_front front offer (Err fault) = refl
