-- What the bytes of a stream say (GDB manual, "Remote Protocol", "Overview" and "Interrupts").

use Rattle.std.specs.Prelude.{ℕ, ◌+◌, ◌%◌, ◌==◌, nat_lt, Bool, true, false, not, ◌&&◌, if◌then◌else◌, bit_xor, List, [], ◌∷◌, ◌++◌, length, Option, Some, None}
use Rattle.rv_gdb_packets.specs.Packets.{byte_spelled, content_limit}

-- what was read of a packet: the bytes that are meant so far, and whether that is all of them;
-- whether the latest byte was a }; and the sum of the bytes that came, modulo 256
pub record Body : Type 0 where
  pub content : List ℕ
  pub is_whole : Bool
  pub escapes : Bool
  pub sum : ℕ

abbrev pub begun : Body
begun = record { content = []; is_whole = true; escapes = false; sum = 0 }

-- where a reader stands: outside of a packet, behind its $, behind its #, or behind the first digit
-- of its checksum
pub data Position : Type 0 where
  Outside : Position
  Inside : (body : Body) → Position
  Behind : (body : Body) → Position
  Half : (body : Body) (digit : ℕ) → Position

-- a packet; one that is to be sent again; a wish to stop what runs; and one to send again
pub data Message : Type 0 where
  Packet : (content : List ℕ) → Message
  Damaged : Message
  Interrupt : Message
  Again : Message

-- a byte that is meant, where it fits
abbrev pub with_meant : ℕ → Body → Body
with_meant b body =
    if nat_lt (length body.content) content_limit
    then record body { content = body.content ++ (b ∷ []) } else record body { is_whole = false }

-- the byte behind a } is meant with its bit 5 changed, and a } not at all
abbrev pub meant : ℕ → Body → Body
meant b body =
    if body.escapes then with_meant (bit_xor b 32) (record body { escapes = false })
    else if b == 125 then record body { escapes = true } else with_meant b body

abbrev pub with_byte : ℕ → Body → Body
with_byte b body = meant b (record body { sum = (body.sum + b) % 256 })

abbrev pub is_spelled : Option ℕ → ℕ → Bool
is_spelled None sum = false
is_spelled (Some n) sum = n == sum

-- a packet came as it was sent if all of it is kept and the two digits behind # are its sum
abbrev pub verdict : Body → ℕ → ℕ → Message
verdict body first second =
    if body.is_whole && not body.escapes && is_spelled (byte_spelled first second) body.sum
    then Packet body.content else Damaged

-- what a byte makes of a position, and what it says; a $ begins a packet anew
abbrev pub received : Position → ℕ → Position × Option Message
received Outside b =
    if b == 36 then (Inside begun, None)
    else if b == 3 then (Outside, Some Interrupt)
    else if b == 45 then (Outside, Some Again) else (Outside, None)
received (Inside body) b =
    if b == 36 then (Inside begun, None)
    else if b == 35 then (Behind body, None) else (Inside (with_byte b body), None)
received (Behind body) b = (Half body b, None)
received (Half body first) b = (Outside, Some (verdict body first b))

abbrev pub with_message : Option Message → List Message → List Message
with_message None rest = rest
with_message (Some m) rest = m ∷ rest

-- what bytes say from a position on
abbrev pub messages : Position → List ℕ → List Message
messages position [] = []
messages position (b ∷ bs) =
    with_message (received position b).1 (messages (received position b).0 bs)
