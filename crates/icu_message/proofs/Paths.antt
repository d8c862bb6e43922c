-- What is written is the path with arguments in places.
use Rattle.std.proofs.Common.{◌≡◌, ℕ, List, [], ◌∷◌, ◌++◌, refl, sym, ap, ◌∙◌}
use Rattle.icu_message.specs.declared.piece.Piece.{Piece}
use Rattle.icu_message.specs.declared.piece.Piece.TheVariants.{Byte, Special, Place, Formatted, Hash, Choice, Arm, EndArm, EndChoice}
use Rattle.icu_message.specs.declared.moving.Mode.{Mode}
use Rattle.icu_message.specs.declared.moving.Mode.TheVariants.{Writing, Seeking, Leaving}
use Rattle.icu_message.specs.Writing.{Filling, picked, moved, sought, piece_text, written_from}
use Rattle.icu_message.specs.Paths.{Stop, stop_at, sought_by, path_from, filled, ArgumentsAreNoSyntax}

-- stops before others
stops_before : (f : Filling) (mode : Mode) (p : Piece) (stops : List Stop) → filled f (stop_at mode p ++ stops) ≡ piece_text f mode p ++ filled f stops
stops_before f Writing (Byte b) stops = refl
stops_before f Writing (Special b) stops = refl
stops_before f Writing (Place w) stops = refl
stops_before f Writing (Formatted w k) stops = refl
stops_before f Writing (Hash w) stops = refl
stops_before f Writing (Choice k w) stops = refl
stops_before f Writing (Arm w) stops = refl
stops_before f Writing EndArm stops = refl
stops_before f Writing EndChoice stops = refl
stops_before f (Seeking n) p stops = refl
stops_before f (Leaving n) p stops = refl

-- the key that is sought
sought_alike : (f : Filling) (key : List ℕ) (mode : Mode) (p : Piece) (ps : List Piece) → sought f key mode p ps ≡ sought_by (picked f) key mode p ps
sought_alike f key Writing (Byte b) ps = refl
sought_alike f key Writing (Special b) ps = refl
sought_alike f key Writing (Place w) ps = refl
sought_alike f key Writing (Formatted w k) ps = refl
sought_alike f key Writing (Hash w) ps = refl
sought_alike f key Writing (Choice k w) ps = refl
sought_alike f key Writing (Arm w) ps = refl
sought_alike f key Writing EndArm ps = refl
sought_alike f key Writing EndChoice ps = refl
sought_alike f key (Seeking n) p ps = refl
sought_alike f key (Leaving n) p ps = refl

path_written : (f : Filling) (key : List ℕ) (mode : Mode) (ps : List Piece) → written_from f key mode ps
    ≡ filled f (path_from f.text (picked f) key mode ps)
path_written f key mode [] = refl
path_written f key mode (p ∷ ps) =
    ap (λ k. piece_text f mode p ++ written_from f k (moved f.text key mode p) ps) (sought_alike f key mode p ps)
    ∙ ap (λ r. piece_text f mode p ++ r) (path_written f (sought_by (picked f) key mode p ps) (moved f.text key mode p) ps)
    ∙ sym (stops_before f mode p (path_from f.text (picked f) (sought_by (picked f) key mode p ps) (moved f.text key mode p) ps))

pub arguments-are-no-syntax : ArgumentsAreNoSyntax
arguments-are-no-syntax f ps = path_written f [] Writing ps
