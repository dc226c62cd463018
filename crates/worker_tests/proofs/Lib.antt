mod AloneLaws
