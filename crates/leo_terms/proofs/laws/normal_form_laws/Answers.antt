use Rattle.leo_terms.proofs.CallerLemmas.{normal_derives}
use Rattle.leo_terms.proofs.NormalFormLaws.{normal_form-itself}
use Rattle.leo_terms.proofs.NormalFormTyping.{normal_form-reduces, normal_form-normal}
use Rattle.leo_terms.proofs.laws.normal_form_laws.Goals as goal

pub returns : goal.returns
returns c = record {
  equal = normal_derives;
  reduces = λ t w. (normal_form-reduces t w, normal_form-normal t w);
  stays = λ t w n. normal_form-itself t n w;
}
