use Rattle.std.proofs.Common.{◌≡◌, ◌<◌, ◌+◌, ◌++◌, ◌∙◌, [], ◌∷◌, ℕ, List, length, map, drop, get_or, refl, sym, ap, subst, append-nil, rules, codes}
use Rattle.std.proofs.lemmas.List.{drop_all}
use Rattle.rv_list_laws.proofs.TakeDropLemmas.{drop_read_or}
use Rattle.rv_object_file_laws.specs.Written.{UnplacedSection, unseen, strings_of}
use Rattle.rv_object_writer.specs.declared.piece.Body.TheVariants.{Bytes}
use Rattle.rv_object_writer.specs.declared.piece.Piece.{Piece as DeclaredPiece}
use Rattle.rv_object_writer.specs.Pieces.{piece_of}
use Rattle.rv_object_writer.specs.Strings.{IsStringTable, with_string}
use Rattle.rv_object_writer.proofs.NamingLemmas.{name_more}
use Rattle.rv_object_writer.proofs.names.section_names.Goals as goal

abbrev no_piece : DeclaredPiece
no_piece = record {
  name = record { ref_ptr = (0, 0); now = [] };
  kind = 0;
  flags = 0;
  body = Bytes (record { ref_ptr = (0, 0); now = [] });
  size = 0;
  link = 0;
  info = 0;
  alignment = 0;
  entry_size = 0;
}

pub loop-piece-preserved : goal.loop-piece-preserved
loop-piece-preserved c =
    let i = c.loop-piece.piece-index in
    let xs = c.args.pieces.now in
    let x = get_or xs i no_piece in
    let ss = c.loop-piece.invariant.0 in
    let key = codes ".shstrtab" in
    let inside : i < length xs = search rules in
    let rest : List (List ℕ) = map (λ (p : UnplacedSection). p.name) (map piece_of (drop (i + 1) xs)) ++ key ∷ [] in (
      with_string ss x.name.now,
      c.in_ok-put.ensures ss c.loop-piece.invariant.1,
      (name_more ss x.name.now rest
          ∙ ap (λ l. ss ++ unseen ss (map (λ (p : UnplacedSection). p.name) (map piece_of l) ++ key ∷ [])) (sym (drop_read_or xs i x no_piece inside refl))
          ∙ c.loop-piece.invariant.2),
    )

pub returns : goal.returns
returns c =
    let i = c.loop-piece.piece-index in
    let xs = c.args.pieces.now in
    let ss = c.loop-piece.invariant.0 in
    let key = codes ".shstrtab" in
    let all : with_string ss key ≡ strings_of (map (λ (p : UnplacedSection). p.name) (map piece_of xs) ++ key ∷ []) =
    sym (append-nil (with_string ss key)) ∙ name_more ss key []
    ∙ ap (λ l. ss ++ unseen ss (map (λ (p : UnplacedSection). p.name) (map piece_of l) ++ key ∷ [])) (sym (drop_all i xs c.loop-piece-test.false))
    ∙ c.loop-piece.invariant.2 in
    subst (λ (l : List (List ℕ)). IsStringTable l c.put-2.new.self) all (c.in_ok-put-2.ensures ss c.loop-piece.invariant.1)
