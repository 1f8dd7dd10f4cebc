use Rattle.rv_gdb_packets.proofs.ReadingLemmas.{packet_read}
use Rattle.rv_gdb_packets.proofs.law.packets_are_read.Goals as goal

pub returns : goal.returns
returns c = packet_read
