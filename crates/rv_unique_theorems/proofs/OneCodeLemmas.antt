-- The code of a statement in so many bytes is one.

use Rattle.std.proofs.Common.{◌≡◌, ℕ, Bool, List, [], ◌∷◌, ◌++◌, length, refl, sym, ap, ◌∙◌, subst, arith, Option, Some, None, inl, inr}
use Rattle.std.specs.Prelude.{◌&&◌}
use Rattle.rv_isa.specs.declared.instruction.Inst.{Inst}
use Rattle.rv_isa.specs.Kinds.{width_of}
use Rattle.rv_isa_laws.specs.Bytes.{little_endian}
use Rattle.rv_expression_laws.specs.Values.{Value}
use Rattle.rv_statement_laws.specs.declared.mnemonic.Mnemonic.{Mnemonic}
use Rattle.rv_statement_laws.specs.Statement.{Operand, Expression}
use Rattle.rv_pseudo_laws.specs.Code.{Part, Closed, Open, Joined, named_form, code}
use Rattle.rv_pseudo_laws.specs.Filled.{are_closed}
use Rattle.rv_parcel.specs.declared.form.Compressed.{Compressed}
use Rattle.rv_parcel.specs.Encoded.{IsEncodedIn, IsLeastAs, IsEncodedAs}
use Rattle.rv_assemble_laws.specs.Coded.{constants, IsCodedPart, AreCodedParts, joined, instructions_in, IsCode}
use Rattle.rv_unique_theorems.proofs.ParcelsLemmas.{one_parcel}
use Rattle.rv_assemble_laws.proofs.LeastCodeLemmas.{least_one, some_parts}

-- ---- the bytes of a part

encoded_one : (i : Inst) (n : ℕ) (a b : List ℕ) → IsEncodedIn i n a → IsEncodedIn i n b → a ≡ b
encoded_one i n a b (inl (e, f)) (inl (g, h)) = f ∙ sym h
encoded_one i n a b (inl (e, f)) (inr (g, h)) = absurd (omega (arith, e, g))
encoded_one i n a b (inr (e, f)) (inl (g, h)) = absurd (omega (arith, e, g))
encoded_one i n a b (inr (e, (p, s, f))) (inr (g, (q, u, h))) = f ∙ ap (little_endian 2) (one_parcel i p q s u) ∙ sym h

-- one instruction, in the form of a parcel that is named, if one is
closed_one : (named : Option Compressed) (rvc : Bool) (i : Inst) (a b : List ℕ) → IsLeastAs named rvc i (length a) → IsEncodedAs named i (length a) a
    → IsLeastAs named rvc i (length b) → IsEncodedAs named i (length b) b → a ≡ b
closed_one (Some form) rvc i a b m (two, line, same, x) n (two', line', same', y) = x ∙ sym y
closed_one None rvc i a b m x n y = encoded_one i (length b) a b (subst (λ k. IsEncodedIn i k a) (least_one rvc i (length a) (length b) m n) x) y

part_one : (named : Option Compressed) (rvc : Bool) (p : Part) (a b : List ℕ) → IsCodedPart named rvc p a → IsCodedPart named rvc p b → a ≡ b
part_one named rvc (Closed i) a b (v, m, x) (w, n, y) = closed_one named rvc i a b m x n y
part_one named rvc (Open k i) a b (v, x) (w, y) = encoded_one i (width_of k) a b x y
part_one named rvc (Joined k i j) a b (v, w, (f, (s, x, y, e))) (v', w', (g, (u, x', y', h))) =
    e ∙ ap (λ l. l ++ s) (encoded_one i 4 f g x x') ∙ ap (λ l. g ++ l) (encoded_one j 4 s u y y') ∙ sym h

parts_one : (named : Option Compressed) (rvc : Bool) (ps : List Part) (xs bs : List (List ℕ)) → AreCodedParts named rvc ps xs → AreCodedParts named rvc ps bs → xs ≡ bs
parts_one named rvc [] [] [] h k = refl
parts_one named rvc [] [] (b ∷ bs) h k = absurd k
parts_one named rvc [] (a ∷ xs) bs h k = absurd h
parts_one named rvc (p ∷ ps) [] bs h k = absurd h
parts_one named rvc (p ∷ ps) (a ∷ xs) [] h k = absurd k
parts_one named rvc (p ∷ ps) (a ∷ xs) (b ∷ bs) (h, hs) (k, ks) =
    ap (λ x. x ∷ xs) (part_one named rvc p a b h k) ∙ ap (λ l. b ∷ l) (parts_one named rvc ps xs bs hs ks)

-- ---- the code of a statement

pub record IsOneCode (n k : ℕ) (a b : List (List ℕ)) (x y : ℕ) : Type 0 where
  pub bytes : n ≡ k
  pub coded : a ≡ b
  pub instructions : x ≡ y

pub code_one : (v : Expression → Value) (rvc : Bool) (m : Mnemonic) (os : List Operand) (n k : ℕ) (a b : List (List ℕ)) (x y : ℕ)
    → code (constants v) rvc n m os ≡ code (constants v) rvc k m os → IsCode v rvc m os n a x → IsCode v rvc m os k b y → IsOneCode n k a b x y
code_one v rvc m os n k a b x y e f g =
    let ps : f.ps ≡ g.ps = some_parts f.ps g.ps (sym f.parts ∙ e ∙ g.parts) in
    let named = named_form (constants v) m os in
    let coded : a ≡ b = parts_one named (rvc && are_closed g.ps) g.ps a b (subst (λ l. AreCodedParts named (rvc && are_closed l) l a) ps f.coded_as) g.coded_as in
    record {
      bytes = f.size ∙ ap (λ l. length (joined l)) coded ∙ sym g.size;
      coded = coded;
      instructions = f.count ∙ ap instructions_in ps ∙ sym g.count;
    }
