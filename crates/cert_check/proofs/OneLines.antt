-- What begins well and has no line of version 2 does so by the rules of version 1, and the other way round.
use Rattle.std.{proofs.{Common.{◌≡◌, ◌⊎◌, inl, inr, ℕ, List, [], ◌∷◌, ◌++◌, map, refl, sym, ◌∙◌, ap, subst}, lemmas.List.{append-nil}}, specs.Prelude.{codes}}
use Rattle.pc_common.specs.{World.{Node}, Steps.{Step}, Lines.{Line, Verdict, observable, unobservable, verdict, second, version_two, step, end, line_words}}
use Rattle.pc_ground.specs.declared.version.Version.TheVariants.{One as version_one, Two}
use Rattle.cert_check.specs.{Certificates.{Question, header, IsCertificate, BeginsWell, in_header, in_graph, in_tree, whole}, RawLines.{RawBegins, RawWhole}}
use Rattle.cert_check.specs.Ones.{IsCertificateOne, BeginsOne, one_header, one_graph, one_tree, one_whole, RawBeginsOne, RawWholeOne}
use Rattle.cert_check.proofs.{BodyBegins.{first_line, second_line, unequal}, Firsts.{begins_first}, Raws.{map_front}}
use Rattle.cert_check.proofs.Words.{one_verdict, no_version_step, no_version_end}

-- a certificate of version 1 is one
pub certificate_wide : (q : Question) (v : Verdict) (ls : List Line) → IsCertificateOne q v ls → IsCertificate q v ls
certificate_wide q observable ls graph = graph
certificate_wide q unobservable ls tree = (version_one, tree)

pub begins_wide : (q : Question) (ls : List Line) → BeginsOne q ls → BeginsWell q ls
begins_wide q ls (one_header v more is) = in_header v more is
begins_wide q ls (one_graph nodes edges of_names ends is) = in_graph nodes edges of_names ends is
begins_wide q ls (one_tree steps opens run is) = in_tree version_one steps opens run is
begins_wide q ls (one_whole v certificate) = whole v (certificate_wide q v ls certificate)

-- after a header of a refutation stands the line of version 2
pub record HasTwo (q : Question) (ls : List Line) : Type 0 where
  pub more : List Line
  pub are : ls ≡ header q unobservable ++ version_two ∷ more

-- what begins well does so by the rules of version 1, or has that line
pub one_or_two : (q : Question) (ls : List Line) → BeginsWell q ls → BeginsOne q ls ⊎ HasTwo q ls
one_or_two q ls (in_header v more is) = inl (one_header v more is)
one_or_two q ls (in_graph nodes edges of_names ends is) = inl (one_graph nodes edges of_names ends is)
one_or_two q ls (in_tree version_one steps opens run is) = inl (one_tree steps opens run is)
one_or_two q ls (in_tree Two steps opens run is) = inr (record { more = map step steps; are = is })
one_or_two q ls (whole observable graph) = inl (one_whole observable graph)
one_or_two q ls (whole unobservable (version_one, tree)) = inl (one_whole unobservable tree)
one_or_two q ls (whole unobservable (Two, tree)) = inr (record { more = map step tree.steps ++ end ∷ []; are = tree.lines_are })

-- no step and no last line is the line of version 2
no_two : (q : Question) (l : Line) (steps : List (Step Node)) (tail more : List Line) → (tail ≡ []) ⊎ (tail ≡ end ∷ [])
    → line_words q.names l ≡ codes "version 2" → map step steps ++ tail ≡ l ∷ more → ⊥
no_two q l [] tail more (inl none) words e = (let is : [] ≡ l ∷ more = sym none ∙ e in cc)
no_two q l [] tail more (inr last) words e =
    let is : end ∷ [] ≡ l ∷ more = sym last ∙ e in
    let same : end ≡ l = cc in no_version_end (ap (line_words q.names) same ∙ words)
no_two q l (s ∷ steps) tail more which words e =
    let same : step s ≡ l = cc in no_version_step q.names s (ap (line_words q.names) same ∙ words)

-- by the rules of version 1 no line with the text of that line stands after a header of a refutation
pub one_not_two : (q : Question) (l : Line) (more : List Line) → line_words q.names l ≡ codes "version 2"
    → BeginsOne q (header q unobservable ++ l ∷ more) → ⊥
one_not_two q l more words (one_header v others is) = cc
one_not_two q l more words (one_graph nodes edges of_names ends is) = (let same : unobservable ≡ observable = cc in unequal (sym same))
one_not_two q l more words (one_tree steps opens run is) =
    let bodies : map step steps ≡ l ∷ more = cc in
    no_two q l steps [] more (inl refl) words (append-nil (map step steps) ∙ bodies)
one_not_two q l more words (one_whole observable graph) =
    let is = graph.lines_are in
    let same : unobservable ≡ observable = cc in unequal (sym same)
one_not_two q l more words (one_whole unobservable tree) =
    let is = tree.lines_are in
    let bodies : map step tree.steps ++ end ∷ [] ≡ l ∷ more = cc in
    no_two q l tree.steps (end ∷ []) more (inr refl) words bodies

-- a first part of what begins well by these rules does so
pub one_first : (q : Question) (ls more : List Line) → BeginsOne q (ls ++ more) → BeginsOne q ls
one_first q ls more begins = go (one_or_two q ls (begins_first q ls more (begins_wide q (ls ++ more) begins)))
  where
    go : BeginsOne q ls ⊎ HasTwo q ls → BeginsOne q ls
    go (inl one) = one
    go (inr two) =
        let P : List Line → Type 0 = λ xs. BeginsOne q (xs ++ more) in
        absurd (one_not_two q version_two (two.more ++ more) refl (subst P two.are begins))

-- the same of lines as bytes
pub raw_one_wide : (q : Question) (raws : List (List ℕ)) → RawBeginsOne q raws → RawBegins q raws
raw_one_wide q raws b = record { lines = b.lines; are = b.are; begins = begins_wide q b.lines b.begins }

pub raw_whole_wide : (q : Question) (raws : List (List ℕ)) → RawWholeOne q raws → RawWhole q raws
raw_whole_wide q raws w =
    record { verdict = w.verdict; lines = w.lines; are = w.are; certificate = certificate_wide q w.verdict w.lines w.certificate }

pub raw_one_first : (q : Question) (raws more : List (List ℕ)) → RawBeginsOne q (raws ++ more) → RawBeginsOne q raws
raw_one_first q raws more b =
    let r = map_front (line_words q.names) b.lines raws more b.are in
    let P : List Line → Type 0 = λ ls. BeginsOne q ls in
    record { lines = r.0; are = r.3; begins = one_first q r.0 r.1 (subst P r.2 b.begins) }

pub raw_one_whole : (q : Question) (raws : List (List ℕ)) → RawWholeOne q raws → RawBeginsOne q raws
raw_one_whole q raws w = record { lines = w.lines; are = w.are; begins = one_whole w.verdict w.certificate }

-- the lines of a header of a refutation, and one more that says version 2
pub raw_two_stuck : (q : Question) → RawBeginsOne q (map (line_words q.names) (header q unobservable) ++ codes "version 2" ∷ []) → ⊥
raw_two_stuck q b = go b.lines b.are b.begins
  where
    three : (a c l : Line) (more : List Line)
        → line_words q.names (verdict unobservable) ≡ line_words q.names a
        → codes "version 2" ≡ line_words q.names l
        → BeginsOne q (a ∷ c ∷ l ∷ more) → ⊥
    three a c l more first third begins =
        let v = first_line q a (c ∷ l ∷ more) (begins_wide q (a ∷ c ∷ l ∷ more) begins) in
        let unseen : v.0 ≡ unobservable = one_verdict v.0 unobservable (sym (ap (line_words q.names) v.1) ∙ sym first) in
        let P : Line → Type 0 = λ x. BeginsOne q (x ∷ c ∷ l ∷ more) in
        let with_verdict = subst P (v.1 ∙ ap verdict unseen) begins in
        let s = second_line q unobservable c (l ∷ more) (begins_wide q (verdict unobservable ∷ c ∷ l ∷ more) with_verdict) in
        let Q : Line → Type 0 = λ x. BeginsOne q (verdict unobservable ∷ x ∷ l ∷ more) in
        one_not_two q l more (sym third) (subst Q s with_verdict)

    go : (ls : List Line) → map (line_words q.names) (header q unobservable) ++ codes "version 2" ∷ [] ≡ map (line_words q.names) ls → BeginsOne q ls → ⊥
    go [] e begins = cc
    go (a ∷ []) e begins = cc
    go (a ∷ c ∷ []) e begins = cc
    go (a ∷ c ∷ l ∷ more) e begins =
        let tail : line_words q.names (second unobservable q.expectation) ∷ codes "version 2" ∷ [] ≡ map (line_words q.names) (c ∷ l ∷ more) = tails e in
        three a c l more (heads e) (heads (tails tail)) begins
      where
        heads : {x y : List ℕ} {xs ys : List (List ℕ)} → x ∷ xs ≡ y ∷ ys → x ≡ y
        heads f = cc

        tails : {x y : List ℕ} {xs ys : List (List ℕ)} → x ∷ xs ≡ y ∷ ys → xs ≡ ys
        tails f = cc
