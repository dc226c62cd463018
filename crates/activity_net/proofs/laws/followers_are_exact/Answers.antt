use Rattle.activity_net.proofs.FollowLaws.{follows_named, named_follower}
use Rattle.activity_net.proofs.laws.followers_are_exact.Goals as goal

pub returns : goal.returns
returns c project order a b limits list activity =
    (follows_named project a b, named_follower project order a b limits list activity)
