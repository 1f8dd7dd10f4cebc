-- What each instruction that is written does.

use Rattle.std.proofs.Common.{◌≡◌, ◌∙◌, ℕ, ◌+◌, ◌*◌, ◌<◌, ◌^◌, ℤ, pos, ◌+ℤ◌, List, [], ◌∷◌, ◌++◌, length, ap, refl, arith, append_assoc, subst}
use Rattle.std.specs.Int.{w64, to_le_bytes}
use Rattle.std.proofs.lemmas.Nat.{from_le_bytes-to_le_bytes_8}
use Rattle.rv_debug_laws.specs.Leb128.{unsigned_at, IsUnsigned, IsSigned}
use Rattle.rv_debug_laws.specs.LineProgram.{when_read, Registers, Row, End, instruction, extended_instruction, changes, advanced, moved, start}
use Rattle.rv_debug_laws.specs.LineUnit.{header}
use Rattle.rv_debug.specs.Writing.{AppendsUnsigned, AppendsSigned, Does, Writes}
use Rattle.rv_debug.proofs.StepLemmas.{one}

pub copy_does : (r : Registers) → Does r (1 ∷ []) (Row r ∷ []) r
unfolding instruction
copy_does r = one r r 1 [] (Row r ∷ []) (λ rest. refl)

pub advance_pc_does : (r : Registers) (bytes : List ℕ) (n : ℕ) → IsUnsigned bytes n → Does r (2 ∷ bytes) [] (record r { address = r.address + n })
unfolding instruction
advance_pc_does r bytes n is =
    one r (record r { address = r.address + n }) 2 bytes []
    (λ rest.
    ap (λ o. when_read o (λ operations. changes (advanced header operations.0 r) operations.1)) (is.read rest)
    ∙ (let once : 1 * n ≡ n = omega arith in ap (λ m. changes (record r { address = r.address + m }) (length bytes)) once))

pub advance_line_does : (r : Registers) (bytes : List ℕ) (n : ℤ) → IsSigned bytes n → Does r (3 ∷ bytes) [] (moved n r)
unfolding instruction
advance_line_does r bytes n is =
    one r (moved n r) 3 bytes [] (λ rest. ap (λ o. when_read o (λ lines. changes (moved lines.0 r) lines.1)) (is.read rest))

pub set_file_does : (r : Registers) (bytes : List ℕ) (n : ℕ) → IsUnsigned bytes n → Does r (4 ∷ bytes) [] (record r { file = n })
unfolding instruction
set_file_does r bytes n is =
    one r (record r { file = n }) 4 bytes [] (λ rest. ap (λ o. when_read o (λ file. changes (record r { file = file.0 }) file.1)) (is.read rest))

pub end_does : (r : Registers) → Does r (0 ∷ 1 ∷ 1 ∷ []) (End r.address ∷ []) (start header)
unfolding instruction extended_instruction unsigned_at
end_does r = one r (start header) 0 (1 ∷ 1 ∷ []) (End r.address ∷ []) (λ rest. refl)

pub set_address_does : (r : Registers) (a : ℕ) → a < 2 ^ 64 → Does r (0 ∷ 9 ∷ 2 ∷ to_le_bytes w64 a) [] (record r { address = a })
unfolding instruction extended_instruction unsigned_at
set_address_does r a h =
    one r (record r { address = a }) 0 (9 ∷ 2 ∷ to_le_bytes w64 a) []
    (λ rest. ap (λ n. changes (record r { address = n }) 10) (from_le_bytes-to_le_bytes_8 a h))

-- the same, behind what was written before
pub wrote_copy : (old new : List ℕ) → new ≡ old ++ 1 ∷ [] → (r : Registers) → Writes old new r (Row r ∷ []) r
wrote_copy old new is r = record { bytes = 1 ∷ []; written = is; does = copy_does r }

pub wrote_end : (old new : List ℕ) → new ≡ old ++ 0 ∷ 1 ∷ 1 ∷ [] → (r : Registers) → Writes old new r (End r.address ∷ []) (start header)
wrote_end old new is r = record { bytes = 0 ∷ 1 ∷ 1 ∷ []; written = is; does = end_does r }

pub wrote_address : (old mid new : List ℕ) (a : ℕ) → a < 2 ^ 64 → mid ≡ old ++ 0 ∷ 9 ∷ 2 ∷ [] → new ≡ mid ++ to_le_bytes w64 a →
    (r : Registers) → Writes old new r [] (record r { address = a })
wrote_address old mid new a h begun is r = record {
  bytes = 0 ∷ 9 ∷ 2 ∷ to_le_bytes w64 a;
  written = is ∙ ap (λ l. l ++ to_le_bytes w64 a) begun ∙ append_assoc old (0 ∷ 9 ∷ 2 ∷ []) (to_le_bytes w64 a);
  does = set_address_does r a h;
}

pub wrote_bytes : (old mid new : List ℕ) (n : ℕ) → mid ≡ old ++ 2 ∷ [] → AppendsUnsigned mid new n →
    (r : Registers) → Writes old new r [] (record r { address = r.address + n })
wrote_bytes old mid new n begun number r = record {
  bytes = 2 ∷ number.bytes;
  written = number.written ∙ ap (λ l. l ++ number.bytes) begun ∙ append_assoc old (2 ∷ []) number.bytes;
  does = advance_pc_does r number.bytes n number.is;
}

pub wrote_file : (old mid new : List ℕ) (from file : ℕ) → mid ≡ old ++ 4 ∷ [] → AppendsUnsigned mid new file →
    (r : Registers) → Writes old new (record r { file = from }) [] (record r { file = file })
wrote_file old mid new from file begun number r = record {
  bytes = 4 ∷ number.bytes;
  written = number.written ∙ ap (λ l. l ++ number.bytes) begun ∙ append_assoc old (4 ∷ []) number.bytes;
  does = set_file_does (record r { file = from }) number.bytes file number.is;
}

pub wrote_line : (old mid new : List ℕ) (from line : ℕ) (n : ℤ) → mid ≡ old ++ 3 ∷ [] → AppendsSigned mid new n → pos from +ℤ n ≡ pos line →
    (r : Registers) → Writes old new (record r { line = pos from }) [] (record r { line = pos line })
wrote_line old mid new from line n begun number lands r = record {
  bytes = 3 ∷ number.bytes;
  written = number.written ∙ ap (λ l. l ++ number.bytes) begun ∙ append_assoc old (3 ∷ []) number.bytes;
  does =
      let P : ℤ → Type 0 = λ z. Does (record r { line = pos from }) (3 ∷ number.bytes) [] (record r { line = z }) in
      subst P lands (advance_line_does (record r { line = pos from }) number.bytes n number.is);
}
