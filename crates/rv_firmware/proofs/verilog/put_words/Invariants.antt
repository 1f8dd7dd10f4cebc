use Rattle.std.proofs.Common.{◌≡◌, ◌++◌, drop, [], ◌∷◌}
use Rattle.std.specs.Prelude.{flat_map}
use Rattle.hex.specs.Hex.{encode_upper}
use Rattle.rv_firmware.proofs.verilog.put_words.Given as goal

abbrev pub invariant-loop-byte : goal.invariant-loop-byte
invariant-loop-byte l =
    l.text.items ++ flat_map (λ byte. 32 ∷ encode_upper (byte ∷ [])) (drop l.byte-index l.bytes)
    ≡ l.initial.text.items ++ flat_map (λ byte. 32 ∷ encode_upper (byte ∷ [])) l.bytes
