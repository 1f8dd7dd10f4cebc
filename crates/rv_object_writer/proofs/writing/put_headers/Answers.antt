use Rattle.std.proofs.Common.{◌≡◌, ◌∙◌, ◌+◌, ◌++◌, [], arith, length, map, drop, get_or, sym, ap, append-nil}
use Rattle.std.specs.Prelude.{flat_map}
use Rattle.std.proofs.lemmas.List.{drop_all}
use Rattle.rv_elf_laws.specs.Records.{section_header_bytes}
use Rattle.rv_object_file_laws.specs.Written.{headers_from, headers_offset}
use Rattle.rv_object_writer.specs.declared.piece.Body.TheVariants.{Bytes}
use Rattle.rv_object_writer.specs.declared.piece.Piece.{Piece as DeclaredPiece}
use Rattle.rv_object_writer.specs.Pieces.{body_bytes, piece_of}
use Rattle.rv_object_writer.proofs.StepsLemmas.{not_below, begins_below, ends_on, header_put}
use Rattle.rv_object_writer.proofs.writing.put_headers.Goals as goal

pub aligned-offset-requires : goal.aligned-offset-requires
aligned-offset-requires c =
    let below = begins_below c.loop-piece.at (map piece_of (drop c.loop-piece.piece-index c.args.pieces.now)) in
    let end = c.loop-piece.invariant.end in
    let room = c.requires in
    omega (arith, below, end, room)

abbrev none : DeclaredPiece
none = record {
  name = record { ref_ptr = (0, 0); now = [] };
  kind = 0;
  flags = 0;
  body = Bytes (record { ref_ptr = (0, 0); now = [] });
  size = 0;
  link = 0;
  info = 0;
  alignment = 0;
  entry_size = 0;
}

pub body_length-requires : goal.body_length-requires
body_length-requires c =
    let ps = c.args.pieces.now in
    let i = c.loop-piece.piece-index in
    let next = c.aligned-offset.result + length (body_bytes (get_or ps i none).body) in
    let end = ends_on ps i c.loop-piece.at c.aligned-offset.result _ none c.loop-piece-test.true c.aligned-offset.ensures c.loop-piece.invariant.end in
    let below = begins_below next (map piece_of (drop (i + 1) ps)) in
    let up = not_below next in
    omega (arith, below, end, up, c.requires)

pub overflow_add-at : goal.overflow_add-at
overflow_add-at c =
    let ps = c.args.pieces.now in
    let i = c.loop-piece.piece-index in
    let next = c.aligned-offset.result + length (body_bytes (get_or ps i none).body) in
    let end = ends_on ps i c.loop-piece.at c.aligned-offset.result _ none c.loop-piece-test.true c.aligned-offset.ensures c.loop-piece.invariant.end in
    let below = begins_below next (map piece_of (drop (i + 1) ps)) in
    let up = not_below next in
    let has : c.body_length.result ≡ length (body_bytes (get_or ps i none).body) = c.body_length.ensures in
    omega (arith, has, below, end, up, c.requires)

pub loop-piece-preserved : goal.loop-piece-preserved
loop-piece-preserved c =
    let ps = c.args.pieces.now in
    let i = c.loop-piece.piece-index in
    let rest = map piece_of (drop (i + 1) ps) in
    let next : c.aligned-offset.result + c.body_length.result ≡ c.aligned-offset.result + length (body_bytes (get_or ps i none).body) =
    ap (λ n. c.aligned-offset.result + n) c.body_length.ensures in
    record {
      written = λ ns table.
          ap (λ n. c.put_section_header.new.out ++ flat_map section_header_bytes (headers_from ns n rest)) next
          ∙ header_put ns ps i c.loop-piece.at c.aligned-offset.result none c.loop-piece.out c.put_section_header.new.out _ c.loop-piece-test.true
          c.aligned-offset.ensures (c.in_ok-put_section_header.ensures ns c.loop-piece.at table c.aligned-offset.ensures) (c.loop-piece.invariant.written ns table);
      end = ap (λ n. headers_offset n rest) next
          ∙ ends_on ps i c.loop-piece.at c.aligned-offset.result _ none c.loop-piece-test.true c.aligned-offset.ensures c.loop-piece.invariant.end;
    }

pub returns : goal.returns
returns c = λ ns table.
    sym (append-nil c.loop-piece.out)
    ∙ ap (λ l. c.loop-piece.out ++ flat_map section_header_bytes (headers_from ns c.loop-piece.at (map piece_of l)))
    (sym (drop_all c.loop-piece.piece-index c.args.pieces.now c.loop-piece-test.false))
    ∙ c.loop-piece.invariant.written ns table
