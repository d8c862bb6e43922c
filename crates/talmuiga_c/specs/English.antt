-- What the library knows of English without a file of tables.
use Rattle.std.specs.Prelude.{ℕ, List, codes}
use Rattle.talmuiga_c.specs.declared.english.TheConstants.{ENGLISH}

-- the tables in the library, the text of tables/english.json
abbrev pub english_tables : List ℕ
english_tables = ENGLISH.now

-- their locale
abbrev pub english_locale : List ℕ
english_locale = codes "en"
