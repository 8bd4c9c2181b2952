-- Lists that grow at their end, and how they are spelled.
use Rattle.std.proofs.Common.{◌≡◌, ℕ, ◌+◌, ◌<◌, List, [], ◌∷◌, ◌++◌, length, length-append, refl, sym, ◌∙◌, ap, append_assoc, append-nil, arith}
use Rattle.std.specs.List.{flat_map}
use Rattle.in_syntax.specs.declared.counts.Counts.{Counts}
use Rattle.in_syntax.specs.declared.tree.SourcePort.{SourcePort}
use Rattle.in_syntax.specs.declared.words.TokenKind.TheVariants as kind
use Rattle.in_syntax.specs.Grammar.{Marked, Spelling, plain, separated, numbered, spell_class, spell_classes, Item, counted, spell_item, spell_items}

abbrev pub comma : Marked
comma = plain kind.Comma

-- each with a comma after it
abbrev pub before : List Spelling → Spelling
before [] = []
before (a ∷ more) = (a ++ comma ∷ []) ++ before more

abbrev pub after : List Spelling → Spelling
after = flat_map (λ b. plain kind.Comma ∷ b)

after_snoc : (l : List Spelling) (a : Spelling) → after (l ++ a ∷ []) ≡ comma ∷ (before l ++ a)
after_snoc [] a = ap (λ z. comma ∷ z) (append-nil a)
after_snoc (b ∷ l) a = ap (λ z. (comma ∷ b) ++ z) (after_snoc l a) ∙ ap (λ z. comma ∷ z) (simp append_assoc)

pub separated_snoc : (l : List Spelling) (a : Spelling) → separated (l ++ a ∷ []) ≡ before l ++ a
separated_snoc [] a = append-nil a
separated_snoc (b ∷ l) a = ap (λ z. b ++ z) (after_snoc l a) ∙ simp append_assoc

after_comma : (l : List Spelling) → after l ++ comma ∷ [] ≡ comma ∷ before l
after_comma [] = refl
after_comma (b ∷ l) = append_assoc (comma ∷ b) (after l) (comma ∷ []) ∙ ap (λ z. (comma ∷ b) ++ z) (after_comma l) ∙ ap (λ z. comma ∷ z) (simp append_assoc)

pub before_is : (l : List Spelling) → 0 < length l → before l ≡ separated l ++ comma ∷ []
before_is [] full = absurd (omega (arith, full))
before_is (b ∷ l) full = sym (append_assoc b (after l) (comma ∷ []) ∙ ap (λ z. b ++ z) (after_comma l) ∙ simp append_assoc)

pub nonempty_snoc : {A : Type 0} (l : List A) (a : A) → 0 < length (l ++ a ∷ [])
nonempty_snoc l a = omega (arith, length-append l (a ∷ []))

pub flat_snoc : {A B : Type 0} (f : A → List B) (l : List A) (a : A) → flat_map f (l ++ a ∷ []) ≡ flat_map f l ++ f a
flat_snoc f [] a = append-nil (f a)
flat_snoc f (b ∷ l) a = ap (λ z. f b ++ z) (flat_snoc f l a) ∙ sym (append_assoc (f b) (flat_map f l) (f a))

-- ---- lists by their numbers

pub numbered_snoc : {A : Type 0} (f : ℕ → A → Spelling) (number : ℕ) (l : List A) (a : A) → numbered f number (l ++ a ∷ []) ≡ numbered f number l ++ f (number + length l) a ∷ []
numbered_snoc f number [] a = let e : number ≡ number + 0 = omega arith in ap (λ n. f n a ∷ []) e
numbered_snoc f number (b ∷ l) a =
    let e : (number + 1) + length l ≡ number + length (b ∷ l) = omega arith in
    ap (λ z. f number b ∷ z) (numbered_snoc f (number + 1) l a ∙ ap (λ n. numbered f (number + 1) l ++ f n a ∷ []) e)

pub nonempty_numbered : {A : Type 0} (f : ℕ → A → Spelling) (number : ℕ) (l : List A) → 0 < length l → 0 < length (numbered f number l)
nonempty_numbered f number [] full = full
nonempty_numbered f number (a ∷ l) full = omega arith

-- the number of the first port after these classes
abbrev pub ports_after : ℕ → List (List SourcePort) → ℕ
ports_after number [] = number
ports_after number (c ∷ more) = ports_after (number + length c) more

pub ports_after_snoc : (number : ℕ) (cs : List (List SourcePort)) (c : List SourcePort) → ports_after number (cs ++ c ∷ []) ≡ ports_after number cs + length c
ports_after_snoc number [] c = refl
ports_after_snoc number (d ∷ cs) c = ports_after_snoc (number + length d) cs c

pub classes_snoc : (number : ℕ) (cs : List (List SourcePort)) (c : List SourcePort) → spell_classes number (cs ++ c ∷ []) ≡ spell_classes number cs ++ spell_class (ports_after number cs) c
classes_snoc number [] c = append-nil (spell_class number c)
classes_snoc number (d ∷ cs) c =
    ap (λ z. spell_class number d ++ z) (classes_snoc (number + length d) cs c)
    ∙ sym (append_assoc (spell_class number d) (spell_classes (number + length d) cs) (spell_class (ports_after (number + length d) cs) c))

-- ---- items by the declarations before them

abbrev pub counted_all : Counts → List Item → Counts
counted_all c [] = c
counted_all c (i ∷ more) = counted_all (counted c i) more

pub counted_snoc : (c : Counts) (is : List Item) (i : Item) → counted_all c (is ++ i ∷ []) ≡ counted (counted_all c is) i
counted_snoc c [] i = refl
counted_snoc c (j ∷ is) i = counted_snoc (counted c j) is i

pub items_snoc : (c : Counts) (is : List Item) (i : Item) → spell_items c (is ++ i ∷ []) ≡ spell_items c is ++ spell_item (counted_all c is) i
items_snoc c [] i = append-nil (spell_item c i)
items_snoc c (j ∷ is) i =
    ap (λ z. spell_item c j ++ z) (items_snoc (counted c j) is i)
    ∙ sym (append_assoc (spell_item c j) (spell_items (counted c j) is) (spell_item (counted_all (counted c j) is) i))
