-- What the code's reader is in the definitions.

use Rattle.std.specs.Prelude.{ℕ, List, Option, Some, None}
use Rattle.rv_gdb_packets.specs.declared.body.Body.{Body}
use Rattle.rv_gdb_packets.specs.declared.receiver.Message.{Message}
use Rattle.rv_gdb_packets.specs.declared.receiver.Message.TheVariants.{Packet, Damaged, Interrupt, Again}
use Rattle.rv_gdb_packets.specs.declared.receiver.Phase.{Phase}
use Rattle.rv_gdb_packets.specs.declared.receiver.Phase.TheVariants.{Outside, Inside, Behind, Half}
use Rattle.rv_gdb_packets.specs.declared.receiver.Receiver.{Receiver}
use Rattle.rv_gdb_packets.specs.Reading as laws

abbrev pub body_of : Body → laws.Body
body_of body = record {
  content = body.content.items;
  is_whole = body.is_whole;
  escapes = body.escapes;
  sum = body.sum;
}

abbrev pub position_at : Phase → laws.Body → laws.Position
position_at Outside body = laws.Outside
position_at Inside body = laws.Inside body
position_at Behind body = laws.Behind body
position_at (Half digit) body = laws.Half body digit

abbrev pub position_of : Receiver → laws.Position
position_of receiver = position_at receiver.phase (body_of receiver.body)

-- a packet's content is what the reader keeps
abbrev pub message_of : Message → List ℕ → laws.Message
message_of Packet content = laws.Packet content
message_of Damaged content = laws.Damaged
message_of Interrupt content = laws.Interrupt
message_of Again content = laws.Again

abbrev pub said_by : Option Message → List ℕ → Option laws.Message
said_by None content = None
said_by (Some m) content = Some (message_of m content)
