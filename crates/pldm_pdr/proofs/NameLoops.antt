-- Names one after the other, as a loop passes them.
use Rattle.std.proofs.Common.{◌≡◌, ℕ, suc, ◌-◌, ◌+◌, ◌≤◌, ◌<◌, List, Ok, Err, refl, arith}
use Rattle.pldm_pdr.specs.declared.fault.RecordFault.{RecordFault}
use Rattle.pldm_pdr.specs.Fields.{and_then}
use Rattle.pldm_pdr.specs.Names.{name_end, each_name_end, names_end, each_names_end}

pub name_passed : (count i : ℕ) (bytes rest : List ℕ) → i < count → name_end bytes ≡ Ok rest → each_name_end (count - i) bytes ≡ each_name_end (count - (i + 1)) rest
unfolding each_name_end and_then
name_passed count i bytes rest lt is =
    let k : count - i ≡ suc (count - (i + 1)) = omega arith in
    rw (k, is) refl

pub name_failed : (count i : ℕ) (bytes : List ℕ) (fault : RecordFault) → i < count → name_end bytes ≡ Err fault → each_name_end (count - i) bytes ≡ Err fault
unfolding each_name_end and_then
name_failed count i bytes fault lt is =
    let k : count - i ≡ suc (count - (i + 1)) = omega arith in
    rw (k, is) refl

pub no_name_left : (count i : ℕ) (bytes : List ℕ) → count ≤ i → each_name_end (count - i) bytes ≡ Ok bytes
unfolding each_name_end
no_name_left count i bytes le =
    let k : count - i ≡ 0 = omega arith in
    rw k refl

pub names_passed : (count i : ℕ) (bytes rest : List ℕ) → i < count → names_end bytes ≡ Ok rest → each_names_end (count - i) bytes ≡ each_names_end (count - (i + 1)) rest
unfolding each_names_end and_then
names_passed count i bytes rest lt is =
    let k : count - i ≡ suc (count - (i + 1)) = omega arith in
    rw (k, is) refl

pub names_failed : (count i : ℕ) (bytes : List ℕ) (fault : RecordFault) → i < count → names_end bytes ≡ Err fault → each_names_end (count - i) bytes ≡ Err fault
unfolding each_names_end and_then
names_failed count i bytes fault lt is =
    let k : count - i ≡ suc (count - (i + 1)) = omega arith in
    rw (k, is) refl

pub no_names_left : (count i : ℕ) (bytes : List ℕ) → count ≤ i → each_names_end (count - i) bytes ≡ Ok bytes
unfolding each_names_end
no_names_left count i bytes le =
    let k : count - i ≡ 0 = omega arith in
    rw k refl
