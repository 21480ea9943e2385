use Rattle.std.proofs.Common.{rules, ◌≡◌, ◌-◌, [], ◌∷◌, length, drop, sym, ◌∙◌, arith, length-drop}
use Rattle.std.proofs.lemmas.List.{take_all}
use Rattle.std.proofs.lemmas.List.Sums.{prefix_len-le-length}
use Rattle.script.specs.Splitting.{dark, words_of}
use Rattle.script.proofs.Cuts.{no_start, first_word}
use Rattle.script.proofs.words.WordsIterator.next.Goals as goal

pub returns-in_err-start-clause-steps : goal.returns-in_err-start-clause-steps
returns-in_err-start-clause-steps c =
    let none : c.args.self.now ≡ [] = sym c.self.view_is ∙ no_start c.self.inside.rest.now (sym c.in_err-start.ensures) in
    rw c.from_residual.ensures (none, none)

pub split_at-requires : goal.split_at-requires
split_at-requires c = search (rules, prefix_len-le-length dark)

went_on : (c : goal.After-rest-2-1) → c.args.self.now ≡ c.split_at.result.0.now ∷ words_of c.split_at.result.1.now
went_on c =
    let line = c.self.inside.rest.now in
    let start = c.in_ok-start.start in
    let whole = take_all (length line - start) (drop start line) (omega (arith, length-drop start line)) in
    sym c.self.view_is ∙ first_word line _ _ _ start _ (sym c.in_ok-start.ensures) whole c.word_len.ensures c.split_at.ensures.front c.split_at.ensures.back

pub returns-clause-steps : goal.returns-clause-steps
returns-clause-steps c = went_on c

pub returns-clause-goes : goal.returns-clause-goes
returns-clause-goes c = let e = went_on c in search rules
