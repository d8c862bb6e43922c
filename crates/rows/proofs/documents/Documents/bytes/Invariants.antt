use Rattle.std.proofs.Common.{◌≡◌, drop}
use Rattle.rows.specs.Documents.{bytes_among}
use Rattle.rows.proofs.documents.Documents.bytes.Given as goal

-- the files that are left have the answer
abbrev pub invariant-loop-document : goal.invariant-loop-document
invariant-loop-document l = bytes_among l.name (drop l.document-index l.document-items) ≡ bytes_among l.name l.self.documents.items
