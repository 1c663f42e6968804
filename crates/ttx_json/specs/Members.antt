-- The members of the program as those of an object.
--
--   member_of               a member: its name and its value
use Rattle.ttx_json.specs.Objects.{Member, word, count, flag}
use Rattle.ttx_json.specs.declared.members.Member.{Member as Given}
use Rattle.ttx_json.specs.declared.members.Member.TheVariants.{Text, Number, Truth}

abbrev pub member_of : Given → Member
member_of (Text name value) = word name.now value.now
member_of (Number name value) = count name.now value
member_of (Truth name value) = flag name.now value
