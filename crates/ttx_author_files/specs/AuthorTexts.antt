-- Which texts are authors' texts, and the service text that a file stands for (profile).
--
--   begins_author           the first key of a text is `author`
--   is_author_text          and its value is 1, in a TOML text
--   IsTextBy, StandsFor     the service text of a file: composed of an author's text, otherwise the bytes themselves
--   IsAuthorLines           the lines about an author's text that has none
--   IsStandingBy            what bytes stand for
--   ReadsStanding           what is returned for the bytes of a file
use Rattle.std.specs.Prelude.{◌≡◌, ◌<◌, ◌≤◌, ℕ, ℤ, pos, negsuc, Bool, true, false, ◌&&◌, ◌==◌, List, codes, length, ⊤, Option, Some, None, option_and_then, if◌then◌else◌, Result, Ok, Err, string_bytes}
use Rattle.std.specs.Str.{bytes_eq, is_utf8}
use Rattle.toml.specs.Data.{Members, get_member, as_integer}
use Rattle.toml.specs.Parse.{skip_bom, parse_document}
use Rattle.toml_parser.specs.Lexical.{skip_blank}
use Rattle.toml_parser.specs.Lexical as lexical
use Rattle.toml_parser.specs.Strings.{Key, key}
use Rattle.ttx_cycle.specs.Bounded.{most_bytes}
use Rattle.ttx_files.specs.declared.faults.FilesFault.{FilesFault}
use Rattle.ttx_files.specs.declared.faults.FilesFault.TheVariants.{Read, TooLong}
use Rattle.ttx_files.specs.declared.faults.FilesFault.TheVariants as files
use Rattle.ttx_files.specs.declared.faults.TextFile.TheVariants as text
use Rattle.ttx_desk.specs.Composing.{author_in, Composes}
use Rattle.ttx_desk.specs.declared.composition.Composed.{Composed}
use Rattle.ttx_desk.specs.declared.composition.ComposeFault.{ComposeFault}
use Rattle.ttx_author_files.specs.Composing.{IsRefusal}
use Rattle.ttx_author_files.specs.declared.author_texts.Standing.{Standing}
use Rattle.ttx_author_files.specs.declared.author_texts.Standing.TheVariants.{Text, Lines}

abbrev pub is_author_key : Key → Bool
is_author_key key = (length key.0 == 0) && bytes_eq key.1 (codes "author")

abbrev pub is_author_read : lexical.Read Key → Bool
is_author_read None = false
is_author_read (Some read) = is_author_key read.0

-- after white space and comments
abbrev pub begins_author : List ℕ → Bool
begins_author text = is_author_read (key (skip_blank (skip_bom text)))

abbrev pub is_one : Option ℤ → Bool
is_one None = false
is_one (Some (pos number)) = number == 1
is_one (Some (negsuc number)) = false

abbrev pub is_marked : Option Members → Bool
is_marked None = false
is_marked (Some table) = is_one (option_and_then as_integer (get_member (codes "author") table))

-- the same for a text, which must be UTF-8
abbrev pub is_author : List ℕ → Bool
is_author text = begins_author text && is_marked (parse_document text)

abbrev pub is_author_text : List ℕ → Bool
is_author_text bytes = if is_utf8 bytes then is_author bytes else false

-- the service text of a file, by whether it is an author's text
abbrev pub IsTextBy : Bool → List ℕ → List ℕ → Type 0
IsTextBy true bytes text = (composed : Composed) × Composes (author_in bytes) (Ok composed) × (text ≡ string_bytes composed.text)
IsTextBy false bytes text = text ≡ bytes

-- the service text that the bytes of a file stand for
abbrev pub StandsFor : List ℕ → List ℕ → Type 0
StandsFor bytes text = (length bytes ≤ most_bytes) × IsTextBy (is_author_text bytes) bytes text

-- lines about an author's text that has no service text
abbrev pub IsAuthorLines : List ℕ → List ℕ → List ℕ → Type 0
IsAuthorLines name bytes lines = (why : ComposeFault) × Composes (author_in bytes) (Err why) × IsRefusal name bytes why lines

-- what bytes stand for, by whether they are an author's text
abbrev pub IsStandingBy : Bool → List ℕ → List ℕ → Standing → Type 0
IsStandingBy is name bytes (Text text) = IsTextBy is bytes text.items
IsStandingBy is name bytes (Lines lines) = (is ≡ true) × IsAuthorLines name bytes (string_bytes lines)

-- a file whose bytes are too many or not read stands for nothing
abbrev pub ReadsStanding : List ℕ → List ℕ → Result Standing FilesFault → Type 0
ReadsStanding name bytes (Ok standing) = (length bytes ≤ most_bytes) × IsStandingBy (is_author_text bytes) name bytes standing
ReadsStanding name bytes (Err (Read which)) = which ≡ text.Service
ReadsStanding name bytes (Err (TooLong which)) = (which ≡ text.Service) × (most_bytes < length bytes)
ReadsStanding name bytes (Err files.NoMemory) = ⊤
ReadsStanding name bytes (Err _) = ⊥
