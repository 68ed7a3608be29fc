-- Each refusal of a text: the number of the question that got a no, and the place.
use Rattle.std.specs.Prelude.{Some, None, Option}
use Rattle.told.specs.declared.Told.{Told}
use Rattle.token.specs.declared.token.TokenRefusal.{TokenRefusal}
use Rattle.token.specs.declared.token.TokenRefusal.TheVariants as Token
use Rattle.reader.specs.declared.read.ReadRefusal.{ReadRefusal}
use Rattle.reader.specs.declared.read.ReadRefusal.TheVariants as Read
use Rattle.image.specs.declared.write.WriteRefusal.{WriteRefusal}
use Rattle.image.specs.declared.write.WriteRefusal.TheVariants as Write
use Rattle.translate.specs.declared.refusal.Refusal.{Refusal}
use Rattle.translate.specs.declared.refusal.Refusal.TheVariants.{Unknown, Misplaced, TooMany, TooLong, NoMemory}

-- 19 is each token known? 20 does each fit the one before? 21 are there few enough items and constants?
-- 22 does the result fit the buffer? Want of memory is no question's answer.
abbrev pub told_of : Refusal → Option Told
told_of (Unknown p) = Some (record { question = 19; place = p })
told_of (Misplaced p) = Some (record { question = 20; place = p })
told_of TooMany = Some (record { question = 21; place = 0 })
told_of TooLong = Some (record { question = 22; place = 0 })
told_of NoMemory = None

-- the refusals of the parts are refusals of the text
abbrev pub of_token : TokenRefusal → Refusal
of_token (Token.Unknown p) = Unknown p
of_token Token.NoMemory = NoMemory

abbrev pub of_read : ReadRefusal → Refusal
of_read (Read.Misplaced p) = Misplaced p
of_read Read.NoMemory = NoMemory

abbrev pub of_write : WriteRefusal → Refusal
of_write Write.TooMany = TooMany
of_write Write.TooLong = TooLong
