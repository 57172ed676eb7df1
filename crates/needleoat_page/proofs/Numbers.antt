-- The numbers of the source that a definition takes, written a second time.
use Rattle.std.proofs.Common.{◌≡◌, refl}
use Rattle.mctpctl_explain.specs.declared.input_warnings.TheConstants.{MAX_WARNINGS}
use Rattle.needleoat_page.specs.declared.ending.TheConstants.{DONE, NOT_RUN, NO_ROOM, REFUSED}

done : DONE ≡ 0
done = refl

refused : REFUSED ≡ 1
refused = refl

not_run : NOT_RUN ≡ 3
not_run = refl

no_room : NO_ROOM ≡ 4
no_room = refl

most_warnings : MAX_WARNINGS ≡ 20
most_warnings = refl
