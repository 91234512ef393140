mod GivenLaws
