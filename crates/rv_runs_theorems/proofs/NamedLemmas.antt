-- The text of an instruction begins with its word: by its format, since both spell the same names.

use Rattle.std.proofs.Common.{◌≡◌, ◌⊎◌, inl, inr, ℕ, Bool, true, false, ◌==◌, cond, List, [], ◌∷◌, ◌++◌, refl, sym, ap, codes}
use Rattle.std.specs.Prelude.{not, ◌&&◌, decimal}
use Rattle.std.specs.Fmt.{signed_decimal}
use Rattle.std.proofs.lemmas.Bool.{and_parts, eqb-true}
use Rattle.rv_isa.specs.declared.instruction.Fence.{Fence as FenceOperands}
use Rattle.rv_isa.specs.declared.instruction.Format.{Format}
use Rattle.rv_isa.specs.declared.instruction.Format.TheVariants.{Registers, Immediate, Shift, Upper, Load, Store, Branch, Jal, Jalr, LoadReserved, Atomic, Fence, Ecall, Ebreak}
use Rattle.rv_parse_laws.specs.Names.{word_of}
use Rattle.rv_parse_laws.proofs.NamesLemmas.{means}
use Rattle.rv_listing_laws.specs.Instruction.{abi_register, in_parentheses, based, target_text, operands, accesses, is_tso, is_between, text_of}
use Rattle.rv_listing_laws.specs.Numbers.{prefixed}
use Rattle.rv_chain_laws.specs.Named.{IsNamedAlike, ListingsNameAlike}

abbrev IsNamedIn : ℕ → Format → Type 0
IsNamedIn address f = IsNamedAlike f (text_of address f) ⊎ (text_of address f ≡ codes "unknown")

-- a word and its operands, or a word alone
before : (f : Format) (text first : List ℕ) (others : List (List ℕ)) → text ≡ word_of f ++ operands (first ∷ others) → IsNamedAlike f text
before f text first others e = record { word = word_of f; means = means f; begins = record { rest = operands (first ∷ others); whole = e; apart = inr (_, refl) } }

lone : (f : Format) (text : List ℕ) → text ≡ word_of f ++ [] → IsNamedAlike f text
lone f text e = record { word = word_of f; means = means f; begins = record { rest = []; whole = e; apart = inl refl } }

fence : (address : ℕ) (x : FenceOperands) → IsNamedIn address (Fence x)
fence address x = go (is_tso x) (is_between x) refl refl
  where
    tso : is_tso x ≡ true → (x.fm == 8) ≡ true
    tso is =
        let four = (and_parts (x.fm == 8 && x.pred == 3 && x.succ == 3 && x.rs1 == 0) (x.rd == 0) is).0 in
        let three = (and_parts (x.fm == 8 && x.pred == 3 && x.succ == 3) (x.rs1 == 0) four).0 in
        let two = (and_parts (x.fm == 8 && x.pred == 3) (x.succ == 3) three).0 in
        (and_parts (x.fm == 8) (x.pred == 3) two).0

    between : is_between x ≡ true → (x.fm == 8) ≡ false
    between is =
        let four = (and_parts (x.fm == 0 && not (x.pred == 0) && not (x.succ == 0) && x.rs1 == 0) (x.rd == 0) is).0 in
        let three = (and_parts (x.fm == 0 && not (x.pred == 0) && not (x.succ == 0)) (x.rs1 == 0) four).0 in
        let two = (and_parts (x.fm == 0 && not (x.pred == 0)) (not (x.succ == 0)) three).0 in
        ap (λ n. n == 8) (eqb-true x.fm 0 (and_parts (x.fm == 0) (not (x.pred == 0)) two).0)

    both : List ℕ
    both = operands (accesses x.pred ∷ accesses x.succ ∷ [])

    go : (t b : Bool) → is_tso x ≡ t → is_between x ≡ b
        → IsNamedAlike (Fence x) (cond t (codes "fence.tso") (cond b (codes "fence" ++ both) (codes "unknown"))) ⊎ (cond t (codes "fence.tso") (cond b (codes "fence" ++ both) (codes "unknown")) ≡ codes "unknown")
    go true b is other = inl (lone (Fence x) _ (ap (λ t. cond t (codes "fence" ++ codes ".tso") (codes "fence") ++ []) (sym (tso is))))
    go false true other is = inl (before (Fence x) _ (accesses x.pred) (accesses x.succ ∷ []) (ap (λ t. cond t (codes "fence" ++ codes ".tso") (codes "fence") ++ both) (sym (between is))))
    go false false other is = inr refl

pub named_alike : ListingsNameAlike
named_alike address (Registers o x) = inl (before (Registers o x) _ (abi_register x.rd) (abi_register x.rs1 ∷ abi_register x.rs2 ∷ []) refl)
named_alike address (Immediate o x) = inl (before (Immediate o x) _ (abi_register x.rd) (abi_register x.rs1 ∷ signed_decimal x.immediate ∷ []) refl)
named_alike address (Shift o x) = inl (before (Shift o x) _ (abi_register x.rd) (abi_register x.rs1 ∷ decimal x.amount ∷ []) refl)
named_alike address (Upper o x) = inl (before (Upper o x) _ (abi_register x.rd) (prefixed x.immediate ∷ []) refl)
named_alike address (Load o x) = inl (before (Load o x) _ (abi_register x.rd) (based x.immediate x.rs1 ∷ []) refl)
named_alike address (Store o x) = inl (before (Store o x) _ (abi_register x.rs2) (based x.immediate x.rs1 ∷ []) refl)
named_alike address (Branch o x) = inl (before (Branch o x) _ (abi_register x.rs1) (abi_register x.rs2 ∷ target_text address x.offset ∷ []) refl)
named_alike address (Jal x) = inl (before (Jal x) _ (abi_register x.rd) (target_text address x.offset ∷ []) refl)
named_alike address (Jalr x) = inl (before (Jalr x) _ (abi_register x.rd) (based x.immediate x.rs1 ∷ []) refl)
named_alike address (LoadReserved false x) = inl (before (LoadReserved false x) _ (abi_register x.rd) (in_parentheses x.rs1 ∷ []) refl)
named_alike address (LoadReserved true x) = inl (before (LoadReserved true x) _ (abi_register x.rd) (in_parentheses x.rs1 ∷ []) refl)
named_alike address (Atomic o double x) = inl (before (Atomic o double x) _ (abi_register x.rd) (abi_register x.rs2 ∷ in_parentheses x.rs1 ∷ []) refl)
named_alike address (Fence x) = fence address x
named_alike address Ecall = inl (lone Ecall _ refl)
named_alike address Ebreak = inl (lone Ebreak _ refl)
