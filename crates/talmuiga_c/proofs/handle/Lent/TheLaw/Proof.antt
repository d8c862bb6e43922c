-- A reference to what is lent is made where one to what a room holds is.
use base.Fml.{Incl}
use denote.Shares.{Shares-less}
use denote.Param.Shared.{copy_shared}
use denote.Struct.Field.{RawPtr-field}
use denote.Struct.Laws.{RawPtr-copy}
use denote.Struct.Lending.{lent_at_shr_laws, Lends-lies, of_Lends}
use Rattle.talmuiga_c.specs.contracts.held.Held.{the_row as Held-row}
use Rattle.talmuiga_c.proofs.held.Held.TheLaws.{the_row_laws, the_within}
use Rattle.talmuiga_c.specs.contracts.handle.Lent as lent
use Rattle.talmuiga_c.proofs.handle.Lent.TheLaw.Statement.{statement}

-- what a room holds names no lifetime, so it outlives each reference to it
outlasts : Incl lent.the_row.lives Held-row.lives
outlasts = the_within lent.the_row.lives

-- what is lent may be shared
pub shares : statement
shares = of_Lends lent.struct lent.the_codes lent.the_heap lent.the_lent
    (λ l place. lent_at_shr_laws Held-row the_row_laws.shr_laws l.at l.held)
    (copy_shared RawPtr-field RawPtr-copy, tt)
    (λ M 𝓤 𝓛 l place. Lends-lies 𝓛 Held-row lent.the_row.lives l.at l.held
    (Shares-less 𝓛 Held-row Held-row.lives lent.the_row.lives outlasts (the_row_laws.shares 𝓛) l.held))
