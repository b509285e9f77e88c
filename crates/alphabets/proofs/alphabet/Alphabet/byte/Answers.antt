use Rattle.std.proofs.Common.{rules}
use Rattle.alphabets.specs.declared.alphabet.Alphabet.TheVariants.{Decimal, Hex, Upper, Alphanumeric}
use Rattle.alphabets.proofs.Symbols.{byte_by_spans}
use Rattle.alphabets.proofs.alphabet.Alphabet.byte.Goals as goal

pub returns-in-Decimal : goal.returns-in-Decimal
returns-in-Decimal c = let e = byte_by_spans Decimal c.args.symbol (search rules) in cc

pub returns-in-Hex : goal.returns-in-Hex
returns-in-Hex c = let e = byte_by_spans Hex c.args.symbol (search rules) in cc

pub returns-in-Upper : goal.returns-in-Upper
returns-in-Upper c = let e = byte_by_spans Upper c.args.symbol (search rules) in cc

pub returns-in-Alphanumeric : goal.returns-in-Alphanumeric
returns-in-Alphanumeric c = let e = byte_by_spans Alphanumeric c.args.symbol (search rules) in cc
