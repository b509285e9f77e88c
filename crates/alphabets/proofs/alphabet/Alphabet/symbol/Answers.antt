use Rattle.std.proofs.Common.{rules}
use Rattle.alphabets.specs.declared.alphabet.Alphabet.TheVariants.{Decimal, Hex, Upper, Alphanumeric}
use Rattle.alphabets.proofs.Symbols.{symbol_by_spans}
use Rattle.alphabets.proofs.alphabet.Alphabet.symbol.Goals as goal

pub returns-in-Decimal : goal.returns-in-Decimal
returns-in-Decimal c = let e = symbol_by_spans Decimal c.args.byte (search rules) in cc

pub returns-in-Hex : goal.returns-in-Hex
returns-in-Hex c = let e = symbol_by_spans Hex c.args.byte (search rules) in cc

pub returns-in-Upper : goal.returns-in-Upper
returns-in-Upper c = let e = symbol_by_spans Upper c.args.byte (search rules) in cc

pub returns-in-Alphanumeric : goal.returns-in-Alphanumeric
returns-in-Alphanumeric c = let e = symbol_by_spans Alphanumeric c.args.byte (search rules) in cc
