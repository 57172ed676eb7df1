-- Each reply that the device made fits, so the one reply of each request does.
use Rattle.std.proofs.Common.{◌≡◌, ℕ, ◌≤◌, List, [], ◌∷◌, Some, None, Option, Bool, true, false, refl, sym, ap, ◌∙◌, subst, eqb-true}
use Rattle.std.specs.Prelude.{◌&&◌, ◌==◌}
use Rattle.std.proofs.lemmas.Bool.{and_parts, not-true, not_from_false}
use Rattle.pldm_responder.specs.Events.{is_busy}
use Rattle.pldm_responder.specs.Performing.{Rules, reply}
use Rattle.mctp_schedule.specs.Logs.{Asked, Happening, Opened, Delivered, Sensed, WentDown, asked_at, reached, InOrder}
use Rattle.mctp_schedule.specs.FirstArrivals.{arrives, earlier, first, is_first}
use Rattle.mctp_schedule.specs.OncePerformed.{bytes_of, once, reply_from, the_reply, FitsPackets, RepliesFit}
use Rattle.mctp_schedule.proofs.FirstPerformed.{is_first_of, request_older, first_below, first_here, first_stays, entry, holds}
use Rattle.mctp_schedule.specs.Timely.{AreApart, InTime}

module _ {S : Type 0} (device : Rules S) (window keep : ℕ) (start : S) where
  pub fits_before : (h : Happening) (log : List Happening) → RepliesFit device window keep start (h ∷ log) → RepliesFit device window keep start log
  fits_before (Opened r) log x = x
  fits_before (Delivered _ _) log x = x.1
  fits_before (Sensed _ _ _) log x = x
  fits_before (WentDown _) log x = x

module _ {S : Type 0} (device : Rules S) (window keep lifetime : ℕ) (less : lifetime ≤ keep) (start : S) where
  pub reply_fits : (log : List Happening) → InOrder log → AreApart S window keep lifetime log → InTime S window keep lifetime log → RepliesFit device window keep start log → (k : ℕ) (place : List Happening) → first S keep log k ≡ Some place → FitsPackets (the_reply device keep start log k)
  reply_fits [] o a i x k place e = absurd (cc)
  reply_fits (Sensed _ _ _ ∷ past) o a i x k place e = reply_fits past o.1 a i x k place e
  reply_fits (WentDown _ ∷ past) o a i x k place e = reply_fits past o.1 a i x k place e
  reply_fits (Opened q ∷ past) o a i x k place e =
      subst (λ (y : Option Asked). FitsPackets (reply_from device keep start (bytes_of y) (first S keep past k)))
      (sym (request_older q past k (first_below S keep past k place e)))
      (reply_fits past o.1 a.1 i x k place e)
  reply_fits (Delivered t j ∷ past) o a i x k place e = go (first S keep past k) refl (λ p is. reply_fits past o.1 a i.1 x.1 k p is)
    where
      log : List Happening
      log = Delivered t j ∷ past

      busy : Bool
      busy = is_busy keep (reached {S = S} past) t

      here : (q : Option Asked) → asked_at past k ≡ q → j ≡ k → arrives q busy ≡ true → first S keep past k ≡ None → FitsPackets (the_reply device keep start log k)
      here None was same on none = absurd (cc)
      here (Some r) was same on none =
          let idle : busy ≡ false = not-true busy on in
          let at = subst (λ n. asked_at past n ≡ Some r) (sym same) was in
          let soon = subst (λ n. InTime S window keep lifetime (Delivered t n ∷ past)) same i in
          let f = entry device window keep lifetime less start past t k r o a soon was idle in
          let is_the_first : is_first S keep past t k ≡ true = ap (λ q. is_first_of q (first S keep past k) busy) was ∙ ap (λ g. is_first_of (Some r) g busy) none ∙ not_from_false _ idle in
          let fit = x.0 r at (f.0 ∙ is_the_first) in
          let place_is : first S keep log k ≡ Some past = subst (λ n. first S keep (Delivered t n ∷ past) k ≡ Some past) (sym same) (first_here S keep past t k r was idle none) in
          subst (FitsPackets)
          (ap (λ s. reply device s r.message) (holds device window keep lifetime less start past o.1 a i.1).same
          ∙ ap (λ q. reply device (once device keep start past) (bytes_of q)) (sym was)
          ∙ ap (reply_from device keep start (bytes_of (asked_at past k))) (sym place_is))
          fit

      go : (f : Option (List Happening)) → first S keep past k ≡ f → ((p : List Happening) → f ≡ Some p → FitsPackets (the_reply device keep start past k)) → FitsPackets (the_reply device keep start log k)
      go (Some p) was ih = subst (λ g. FitsPackets (reply_from device keep start (bytes_of (asked_at past k)) g)) (sym (first_stays S keep past t j k p was)) (ih p refl)
      go None none ih =
          let test = j == k && arrives (asked_at past k) busy in
          let new : earlier None test past ≡ Some place = ap (λ g. earlier g test past) (sym none) ∙ e in
          let on = on_from test new in
          let p = and_parts (j == k) (arrives (asked_at past k) busy) on in
          here (asked_at past k) refl (eqb-true j k p.0) p.1 none
        where
          on_from : (b : Bool) → earlier None b past ≡ Some place → b ≡ true
          on_from true _ = refl
          on_from false f = absurd (cc)
