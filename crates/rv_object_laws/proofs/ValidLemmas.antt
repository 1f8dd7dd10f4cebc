-- What follows from the definitions of Valid, for all who cite them.

use Rattle.std.proofs.Common.{◌≡◌, ℕ, ◌==◌, nat_le, true, not, List, [], ◌∷◌, refl, arith}
use Rattle.std.specs.List.{list_all}
use Rattle.std.proofs.lemmas.Bool.{and_parts, and_from, leb-true, ne_eqb, not_from_false}
use Rattle.rv_map_laws.specs.Name.{is_name_byte}
use Rattle.rv_object_laws.specs.Valid.{is_string}

pub no_zero : (name : List ℕ) → list_all is_name_byte name ≡ true → is_string name ≡ true
no_zero [] h = refl
no_zero (byte ∷ name) h =
    let both = and_parts (is_name_byte byte) (list_all is_name_byte name) h in
    let low = leb-true 0x21 byte (and_parts (nat_le 0x21 byte) (nat_le byte 0x7E) both.0).0 in
    and_from (not (byte == 0)) (is_string name) (not_from_false (byte == 0) (ne_eqb byte 0 (λ e. omega arith))) (no_zero name both.1)
