-- The order of askers is total, and distinguishes all of them.
use Rattle.std.proofs.Common.{◌≡◌, ℕ, ◌+◌, ◌*◌, ◌/◌, ◌%◌, ◌<◌, arith, ap}
use Rattle.std.specs.FinMap.{IsAntisymmetric}
use Rattle.std.specs.Ordering.{nat_cmp}
use Rattle.std.specs.Cmp.{IsTotalOrder, nat_cmp_total}
use Rattle.std.proofs.lemmas.Cmp.{on_total, then_total}
use Rattle.std.proofs.lemmas.Map.Lookups.{exact_unsigned, exact_pairs}
use Rattle.pldm_endpoint.specs.RequestKeys.{request_key, request_key_at, request_key_cmp, number_of}
use Rattle.pldm_endpoint.specs.declared.pending_commands.RequestKey.{RequestKey}

from_pair : ℕ × ℕ → RequestKey
from_pair p = request_key p.0 p.1

pub request_keys_exact : IsAntisymmetric request_key_cmp
unfolding from_pair
request_keys_exact a b h =
    ap from_pair (exact_pairs nat_cmp nat_cmp exact_unsigned exact_unsigned (a.source, a.id) (b.source, b.id) h)

pub request_keys_total : IsTotalOrder request_key_cmp
request_keys_total = then_total (on_total (λ a. a.source) nat_cmp_total) (on_total (λ a. a.id) nat_cmp_total)

-- each request_key has a number of its own
pub number_of_request_key : (n : ℕ) → number_of (request_key_at n) ≡ n
number_of_request_key n = omega arith

source_of : (source id : ℕ) → id < 256 → (256 * source + id) / 256 ≡ source
source_of source id h = omega arith

id_of : (source id : ℕ) → id < 256 → (256 * source + id) % 256 ≡ id
id_of source id h = omega arith

pub request_key_of_number : (by : RequestKey) → by.id < 256 → request_key_at (number_of by) ≡ by
request_key_of_number by h = λ i. record { source = source_of by.source by.id h i; id = id_of by.source by.id h i }
