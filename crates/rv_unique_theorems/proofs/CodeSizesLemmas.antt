-- The least sizes of the code of a source are one family.

use Rattle.std.proofs.Common.{◌≡◌, ℕ, List, [], ◌∷◌, refl, sym, ap, ◌∙◌, subst, Option, Some, None}
use Rattle.rv_statement_laws.specs.Statement.{StatementKind, Label, Numbered, Instruction, Directs, Operand}
use Rattle.rv_size_laws.specs.declared.item.Forms.{Forms}
use Rattle.rv_size_laws.specs.declared.item.Forms.TheVariants.{Settled, CompressedBranch, Branch, CompressedJump}
use Rattle.rv_size_laws.specs.declared.item.Item.{Item}
use Rattle.rv_size_laws.specs.Branches.{IsLeastGood}
use Rattle.rv_size_laws.proofs.WideningLemmas.{one_least_good}
use Rattle.rv_unit_laws.specs.Tables.{Tables}
use Rattle.rv_source_laws.specs.Located.{Located}
use Rattle.rv_source_laws.specs.Sizes.{near_forms, item_by, item_by_kind, items_of, settled, AreLeast}
use Rattle.rv_assemble_laws.specs.LaidStatements.{expression_value}
use Rattle.rv_assemble_laws.specs.Refusals.{HasCodeSize, AreCodeSizes}
use Rattle.rv_assemble_laws.proofs.FixedLemmas.{code_fixed}
use Rattle.rv_unique_theorems.proofs.OneCodeLemmas.{code_one}

module _ (t : Tables) (all : List Located) where
  form_one : (l : Located) (n m : ℕ) (os : List Operand) (forms : Option Forms) → (forms ≡ None → n ≡ m) → item_by t all l n os forms ≡ item_by t all l m os forms
  form_one l n m os None f = ap (settled l) (f refl)
  form_one l n m os (Some (Settled size)) f = refl
  form_one l n m os (Some CompressedBranch) f = refl
  form_one l n m os (Some Branch) f = refl
  form_one l n m os (Some CompressedJump) f = refl

  -- to the search for sizes a statement in either size is one item
  item_one : (l : Located) (n m : ℕ) (kind : StatementKind) → HasCodeSize l.home.executable (expression_value t l) l.options.rvc kind n → HasCodeSize l.home.executable (expression_value t l) l.options.rvc kind m
      → item_by_kind t all l n kind ≡ item_by_kind t all l m kind
  item_one l n m (Label name) h k = ap (settled l) (h ∙ sym k)
  item_one l n m (Numbered number) h k = ap (settled l) (h ∙ sym k)
  item_one l n m (Instruction mnemonic os) (c, (i, h)) (d, (j, k)) =
      form_one l n m os (near_forms l.options.rvc mnemonic os)
      (λ none. (code_one (expression_value t l) l.options.rvc mnemonic os n m c d i j (code_fixed _ l.options.rvc n m mnemonic os none) h k).bytes)
  item_one l n m (Directs directive) h k = ap (settled l) (h ∙ sym k)

  items_one : (ls : List Located) (ns ms : List ℕ) → AreCodeSizes t ls ns → AreCodeSizes t ls ms → items_of t all ls ns ≡ items_of t all ls ms
  items_one [] [] [] h k = refl
  items_one [] [] (m ∷ ms) h k = absurd k
  items_one [] (n ∷ ns) ms h k = absurd h
  items_one (l ∷ ls) [] ms h k = absurd h
  items_one (l ∷ ls) (n ∷ ns) [] h k = absurd k
  items_one (l ∷ ls) (n ∷ ns) (m ∷ ms) (h, hs) (k, ks) =
      ap (λ (z : Item). z ∷ items_of t all ls ns) (item_one l n m l.kind h k)
      ∙ ap (λ zs. item_by_kind t all l m l.kind ∷ zs) (items_one ls ns ms hs ks)

pub one_code_sizes : (t : Tables) (ls : List Located) (ns ms : List ℕ) → AreCodeSizes t ls ns → AreCodeSizes t ls ms → AreLeast t ls ns → AreLeast t ls ms → ns ≡ ms
one_code_sizes t ls ns ms h k least other =
    one_least_good (items_of t ls ls ms) ns ms (subst (λ is. IsLeastGood is ns) (items_one t ls ls ns ms h k) least) other
