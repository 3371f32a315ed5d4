use Rattle.std.proofs.Common.{ap, sym, ◌∙◌, ◌∷◌, string_bytes}
use Rattle.command_words.specs.Words.{after, given_in, texts_of, with_front}
use Rattle.command_words.proofs.WordLemmas.{cut_given, next_given, none_given}
use Rattle.command_words.proofs.options.first_of.Goals as goal

pub returns-in-Some-clause-first : goal.returns-in-Some-clause-first
returns-in-Some-clause-first c =
    ap (λ words. given_in (texts_of words)) c.in_ok-word.ensures.cases.0
    ∙ ap (λ word. given_in (word ∷ texts_of c.in_ok-word.behind.now)) (sym c.deref.ensures)
    ∙ cut_given c.deref.result.now (texts_of c.in_ok-word.behind.now) c.in-Some.name c.in-Some.value c.in-Some.ensures.cases

pub returns-in_ok-value-in-None-clause-first : goal.returns-in_ok-value-in-None-clause-first
returns-in_ok-value-in-None-clause-first c =
    ap (λ words. given_in (texts_of words)) c.in_ok-word.ensures.cases.0
    ∙ ap (λ words. given_in (string_bytes c.in_ok-word.word.now ∷ texts_of words)) c.in_ok-value-in-None.ensures.cases.0
    ∙ ap (λ word. given_in (word ∷ string_bytes c.in_ok-value-in-None.value.now ∷ texts_of c.in_ok-value-in-None.behind.now)) (sym c.deref.ensures)
    ∙ next_given c.deref.result.now (string_bytes c.in_ok-value-in-None.value.now) (texts_of c.in_ok-value-in-None.behind.now) c.in-None.ensures.cases
    ∙ ap (λ word. with_front (record { name = word; value = string_bytes c.in_ok-value-in-None.value.now }) (given_in (texts_of c.in_ok-value-in-None.behind.now))) (c.deref.ensures ∙ sym c.as_str.ensures.value)
    ∙ ap (λ next. with_front (record { name = c.as_str.result.now; value = next }) (given_in (texts_of c.in_ok-value-in-None.behind.now))) (sym c.as_str-in-None.ensures.value)

pub returns-in_err-value-in-None-clause-first : goal.returns-in_err-value-in-None-clause-first
returns-in_err-value-in-None-clause-first c =
    ap (λ words. given_in (texts_of words)) c.in_ok-word.ensures.cases.0
    ∙ ap (λ word. given_in (word ∷ texts_of c.in_ok-word.behind.now)) (sym c.deref.ensures)
    ∙ none_given c.deref.result.now c.in_ok-word.behind.now c.in_err-value-in-None.ensures.cases c.in-None.ensures.cases
    ∙ ap (λ setting. after setting (λ s. with_front (record { name = s.name.now; value = s.value.now }) (given_in (texts_of s.behind.now)))) (sym c.from_residual-in_err-value-in-None.ensures)
