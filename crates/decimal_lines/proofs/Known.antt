-- Known bytes, over several calls.
use Rattle.std.proofs.Common.{ℕ, List, [], ◌++◌, Option, Some, None, refl, sym, ap, subst, ◌∙◌, append_assoc, arith, length-append}
use Rattle.std.proofs.lemmas.List.{append-nil}
use Rattle.std.specs.Io.KnownBytes.{Appends, Keeps, Consumes}
use Rattle.decimal_lines.specs.Written.{AppendsBeginning, AppendsProperBeginning}

-- what is appended first and then is appended together
pub Appends-then : (a b c : Option (List ℕ)) (x y : List ℕ) → Appends a b x → Appends b c y → Appends a c (x ++ y)
Appends-then None b c x y p q = tt
Appends-then (Some s) None c x y p q = absurd p
Appends-then (Some s) (Some t) None x y p q = absurd q
Appends-then (Some s) (Some t) (Some u) x y p q = rw (q, p) (append_assoc s x y)

-- nothing is appended where nothing changes
pub Appends-nothing : (a : Option (List ℕ)) → Appends a a []
Appends-nothing None = tt
Appends-nothing (Some s) = sym (append-nil s)

-- what is kept afterwards is still appended
pub Appends-keeps : (a b c : Option (List ℕ)) (x : List ℕ) → Appends a b x → Keeps b c → Appends a c x
Appends-keeps None b c x p q = tt
Appends-keeps (Some s) None c x p q = absurd p
Appends-keeps (Some s) (Some t) None x p q = absurd q
Appends-keeps (Some s) (Some t) (Some u) x p q = q ∙ p

-- what is consumed first and then is consumed together
pub Consumes-then : (a b c : Option (List ℕ)) (x y : List ℕ) → Consumes a b x → Consumes b c y → Consumes a c (x ++ y)
Consumes-then None b c x y p q = tt
Consumes-then (Some s) None c x y p q = absurd p
Consumes-then (Some s) (Some t) None x y p q = absurd q
Consumes-then (Some s) (Some t) (Some u) x y p q = p ∙ ap (λ (k : List ℕ). x ++ k) q ∙ sym (append_assoc x y u)

-- a whole text and then a beginning of another are a beginning of both
pub AppendsBeginning-then : (a b c : Option (List ℕ)) (x y : List ℕ) → Appends a b x → AppendsBeginning b c y → AppendsBeginning a c (x ++ y)
AppendsBeginning-then a b c x y p (front, q, (rest, e)) =
    (x ++ front, Appends-then a b c x front p q, (rest, rw e (sym (append_assoc x front rest))))

-- a beginning of a text is one of each longer text
pub AppendsBeginning-more : (a b : Option (List ℕ)) (x y : List ℕ) → AppendsBeginning a b x → AppendsBeginning a b (x ++ y)
AppendsBeginning-more a b x y (front, q, (rest, e)) = (front, q, (rest ++ y, rw e (append_assoc front rest y)))

-- what is kept afterwards is still consumed
pub Consumes-keeps : (a b c : Option (List ℕ)) (x : List ℕ) → Consumes a b x → Keeps b c → Consumes a c x
Consumes-keeps None b c x p q = tt
Consumes-keeps (Some s) None c x p q = absurd p
Consumes-keeps (Some s) (Some t) None x p q = absurd q
Consumes-keeps (Some s) (Some t) (Some u) x p q = p ∙ ap (λ (k : List ℕ). x ++ k) (sym q)

-- nothing is consumed where nothing changes
pub Consumes-nothing : (a : Option (List ℕ)) → Consumes a a []
Consumes-nothing None = tt
Consumes-nothing (Some s) = refl

-- consuming nothing afterwards changes nothing
pub Consumes-none : (a b c : Option (List ℕ)) (x : List ℕ) → Consumes a b x → Consumes b c [] → Consumes a c x
Consumes-none a b c x p q = subst (λ (k : List ℕ). Consumes a c k) (append-nil x) (Consumes-then a b c x [] p q)

-- a whole text and then a proper beginning of another are a proper beginning of both
pub AppendsProperBeginning-then : (a b c : Option (List ℕ)) (x y : List ℕ) → Appends a b x → AppendsProperBeginning b c y →
    AppendsProperBeginning a c (x ++ y)
AppendsProperBeginning-then a b c x y p (front, q, (rest, e, n)) =
    (x ++ front, Appends-then a b c x front p q, (rest, rw e (sym (append_assoc x front rest)), n))

-- a proper beginning of a text is one of each longer text
pub AppendsProperBeginning-more : (a b : Option (List ℕ)) (x y : List ℕ) → AppendsProperBeginning a b x → AppendsProperBeginning a b (x ++ y)
AppendsProperBeginning-more a b x y (front, q, (rest, e, n)) = (front, q, (rest ++ y, rw e (append_assoc front rest y), omega (arith, length-append rest y)))

-- a proper beginning is a beginning
pub AppendsProperBeginning-is_beginning : (a b : Option (List ℕ)) (x : List ℕ) → AppendsProperBeginning a b x → AppendsBeginning a b x
AppendsProperBeginning-is_beginning a b x (front, q, (rest, e, n)) = (front, q, (rest, e))

-- nothing appended is a beginning of every text
pub AppendsBeginning-nothing : (a : Option (List ℕ)) (x : List ℕ) → AppendsBeginning a a x
AppendsBeginning-nothing a x = ([], Appends-nothing a, (x, refl))
