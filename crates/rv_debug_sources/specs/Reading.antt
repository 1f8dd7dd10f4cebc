-- What the reader has found, and what it will find.

use Rattle.std.specs.Prelude.{List, map}
use Rattle.rv_expression_laws.specs.Lexing.{Token}
use Rattle.rv_lexer.specs.Token.{token_of}
use Rattle.rv_debug_sources.specs.declared.said.Lines.{Lines}
use Rattle.rv_debug_sources.specs.declared.source.Reader.{Reader}
use Rattle.rv_debug_sources.specs.Lines.{Said}
use Rattle.rv_debug_sources.specs.Sources.{Read, read_all, statements_from}

abbrev pub said_of : Lines → Said
said_of l = record {
  names = l.names.items;
  directories = l.directories.items;
  steps = l.steps.items;
  column = l.column;
  is_stmt = l.is_stmt;
  is_open = l.is_open;
}

abbrev pub read_so_far : Reader → Read
read_so_far r = record { edits = r.edits.items; said = said_of r.lines }

-- what a reader has found, with what it finds in these tokens
abbrev pub found_with : Reader → List Token → Read
found_with r ts = read_all (read_so_far r) (statements_from (map token_of r.begun.items) ts)
