-- What follows from the definitions of Object, for all who cite them.

use Rattle.std.proofs.Common.{◌≡◌, ℕ, ◌+◌, ◌≤◌, true, ◌&&◌, nat_le, ◌%◌, Option, Some, None}
use Rattle.std.specs.Prelude.{◌==◌, unwrap_or}
use Rattle.std.proofs.lemmas.Bool.{leb-true, and_parts}
use Rattle.rv_object_laws.specs.Object.{Contents, size_of}
use Rattle.rv_object_laws.specs.Valid.{is_padding_of}

pub padding_inside : (c : Contents) (place : ℕ) (o : Option ℕ) → is_padding_of true c place o ≡ true → place + unwrap_or o 0 ≤ size_of c
padding_inside c place None h = absurd (cc)
padding_inside c place (Some n) h =
    let one : ((n % 2 == 0) && nat_le n 4094 ≡ true) × (((place % 2 == 0) && nat_le (place + n) (size_of c)) ≡ true) = and_parts ((n % 2 == 0) && nat_le n 4094) ((place % 2 == 0) && nat_le (place + n) (size_of c)) h in
    leb-true (place + n) (size_of c) ((and_parts (place % 2 == 0) (nat_le (place + n) (size_of c)) one.1).1)
