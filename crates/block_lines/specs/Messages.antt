-- What an unreadable line is told. Assumes nothing.
--   message_of  the bytes of the message
use Rattle.std.specs.Prelude.{ℕ, List, codes}
use Rattle.block_lines.specs.declared.unreadable.Unreadable.{Unreadable}
use Rattle.block_lines.specs.declared.unreadable.Unreadable.TheVariants.{EmptyWord, MissingWord, TooManyWords, Command, Key, Block, Iv, Index, Message}

abbrev pub message_of : Unreadable → List ℕ
message_of EmptyWord = codes "empty word"
message_of MissingWord = codes "a word is missing"
message_of TooManyWords = codes "too many words"
message_of Command = codes "unknown command"
message_of Key = codes "the key is not 32 hexadecimal digits"
message_of Block = codes "the block is not 32 hexadecimal digits"
message_of Iv = codes "the IV is not 32 hexadecimal digits"
message_of Index = codes "the index is not 1 to 32 hexadecimal digits"
message_of Message = codes "the message is not an even number of hexadecimal digits"
