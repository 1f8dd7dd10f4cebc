-- Values as JSON has them. Readers of JSON keep numbers up to 2 ^ 53 exact (RFC 8259, section 6).

use Rattle.std.specs.Prelude.{ℕ, ◌^◌, false, if◌then◌else◌, nat_le, List, Option, Some, None}
use Rattle.std.specs.Fmt.{digits}
use Rattle.serde_json.specs.Data.{Data, null, number, unsigned, string}

-- itself, or from 2 ^ 53 + 1 on the text of its decimal digits
abbrev pub number_data : ℕ → Data
number_data n = if nat_le n (2 ^ 53) then number (unsigned n) else string (digits 10 false n)

abbrev pub number_or_null_data : Option ℕ → Data
number_or_null_data None = null
number_or_null_data (Some n) = number_data n

abbrev pub text_or_null_data : Option (List ℕ) → Data
text_or_null_data None = null
text_or_null_data (Some text) = string text
